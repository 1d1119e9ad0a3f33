use Rattle.std.proofs.Common.{◌≡◌, ◌<◌, ◌++◌, length, take, drop, Some}
use Rattle.reading.specs.NameSets.{names_of}
use Rattle.reading.specs.NameStrings.{fours}
use Rattle.reading.specs.NamesRule.{join}
use Rattle.reading.proofs.name_set.NameSet.join.Given as goal

abbrev pub invariant-loop-b : goal.invariant-loop-b
invariant-loop-b l =
    (l.filled < 4) × (length l.held ≡ 4)
    × (join l.bound (fours (take l.filled l.held ++ drop l.b-index l.bytes)) (Some (names_of l.self)) ≡ join l.bound (fours l.bytes) (Some (names_of l.initial.self)))
