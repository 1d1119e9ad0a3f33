use Rattle.std.proofs.Common.{◌≡◌, ◌++◌, take, drop}
use Rattle.reading.specs.NamesRule.{insert}
use Rattle.reading.proofs.name_set.place.Given as goal

abbrev pub invariant-loop-here : goal.invariant-loop-here
invariant-loop-here l = take l.here-index l.here-items ++ insert l.carried (drop l.here-index l.here-items) ≡ insert l.initial.carried l.initial.here-items
