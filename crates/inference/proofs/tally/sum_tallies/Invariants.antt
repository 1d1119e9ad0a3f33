use Rattle.inference.proofs.Tallying.{Summed}
use Rattle.inference.proofs.tally.sum_tallies.Given as goal

abbrev pub invariant-loop-part : goal.invariant-loop-part
invariant-loop-part l = Summed l.parts l.part-index l.sum
