use Rattle.std.proofs.Common.{length}
use Rattle.layout.proofs.Scans.{Owed}
use Rattle.layout.proofs.scan.pass_over.Given as goal

abbrev pub invariant-loop-owed : goal.invariant-loop-owed
invariant-loop-owed l = Owed l.bytes l.count l.rest l.owed l.nodes

abbrev pub decreases-loop-owed : goal.decreases-loop-owed
decreases-loop-owed l = length l.rest
