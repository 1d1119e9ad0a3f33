use Rattle.inference.specs.Slots.{Goes, slot_of, slots_of}
use Rattle.inference.proofs.entries.find.Given as goal

abbrev pub invariant-loop-i : goal.invariant-loop-i
invariant-loop-i l = Goes (slot_of l.added) (slots_of l.entries) l.i
