use Rattle.inference.proofs.Walking.{Sofar}
use Rattle.inference.proofs.graph.Graph.check_acyclic.Given as goal

abbrev pub invariant-loop-i : goal.invariant-loop-i
invariant-loop-i l = Sofar l.self.cells.now l.marks l.i
