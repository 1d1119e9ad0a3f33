use Rattle.std.proofs.Common.{length}
use Rattle.inference.proofs.join.+add_children.Given as goal

abbrev pub decreases-add_children : goal.decreases-add_children
decreases-add_children l = length l.parts.now
