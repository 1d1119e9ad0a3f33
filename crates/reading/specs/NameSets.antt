-- What a set of names holds, and what is known once there are too many. Assumes nothing.
use Rattle.std.specs.Prelude.{List, Some, None, Ok, Err, Option, Result}
use Rattle.syntax.specs.declared.name.Name.{Name}
use Rattle.reading.specs.declared.name_set.NameSet.{NameSet}
use Rattle.reading.specs.declared.name_set.TooMany.{TooMany}

abbrev pub names_of : NameSet → List Name
names_of s = s.names.items

-- the names after a step, unless there are too many
abbrev pub kept : Result (Unit {0}) TooMany → List Name → Option (List Name)
kept (Ok done) ns = Some ns
kept (Err e) ns = None
