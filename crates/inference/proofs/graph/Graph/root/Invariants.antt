use Rattle.std.proofs.Common.{◌≡◌, ◌<◌, length}
use Rattle.typing.specs.Cells.{find}
use Rattle.inference.proofs.graph.Graph.root.Given as goal

abbrev pub invariant-loop-i : goal.invariant-loop-i
invariant-loop-i l = (l.i < length l.self.cells.now) × (find l.self.cells.now l.i ≡ find l.self.cells.now l.start)

abbrev pub decreases-loop-i : goal.decreases-loop-i
decreases-loop-i l = l.i
