use Rattle.std.proofs.Common.{◌+◌, ◌*◌, length}
use Rattle.typing.specs.Solutions.{live}
use Rattle.inference.specs.Worklists.{pairs_of}
use Rattle.inference.proofs.Running.{Going}
use Rattle.inference.proofs.graph.Graph.unify.Given as goal

abbrev pub invariant-loop-a : goal.invariant-loop-a
invariant-loop-a l = Going l.initial.self.cells.now (pairs_of l.initial.pairs) l.self.cells.now (pairs_of l.pairs)

abbrev pub decreases-loop-a : goal.decreases-loop-a
decreases-loop-a l = 3 * live l.self.cells.now + length l.pairs.items
