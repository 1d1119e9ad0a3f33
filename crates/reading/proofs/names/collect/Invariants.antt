use Rattle.std.proofs.Common.{◌≡◌, [], drop, Some}
use Rattle.reading.specs.NameSets.{names_of}
use Rattle.reading.specs.NamesRule.{merge_all}
use Rattle.reading.specs.Readings.{texts}
use Rattle.reading.proofs.names.collect.Given as goal

abbrev pub invariant-loop-part : goal.invariant-loop-part
invariant-loop-part l = merge_all l.bound (texts (drop l.part-index l.parts)) (Some (names_of l.set)) ≡ merge_all l.bound (texts l.parts) (Some [])
