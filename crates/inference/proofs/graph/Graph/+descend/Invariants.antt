use Rattle.inference.specs.Walks.{unseen}
use Rattle.inference.proofs.graph.Graph.+descend.Given as goal

abbrev pub decreases-descend : goal.decreases-descend
decreases-descend l = unseen l.marks.now
