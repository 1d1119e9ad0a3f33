-- A meeting of two cells as the code has it. Assumes nothing.
use Rattle.std.specs.Prelude.{[], ◌∷◌, ◌++◌, Some, None, Option, Result, Ok, Err}
use Rattle.typing.specs.Cells.{Graph, Pairs, Outcome, clash, more}
use Rattle.typing.specs.declared.cell.Cell.{Cell}
use Rattle.inference.specs.declared.meeting.Clash.{Clash}
use Rattle.inference.specs.declared.meeting.Parts.{Parts}

-- what has to be made equal too
abbrev pub pairs_in : Option Parts → Pairs
pairs_in None = []
pairs_in (Some p) = p.functions ∷ p.arguments ∷ []

abbrev pub met_of : Result (Cell × Option Parts) Clash → Option (Cell × Pairs)
met_of (Err e) = None
met_of (Ok m) = Some (m.0, pairs_in m.1)

-- What a step leaves, where two cells met or were one already, and other pairs wait.
abbrev pub stepped : Result (Option Parts) Clash → Graph → Pairs → Outcome
stepped (Err e) g ps = clash
stepped (Ok parts) g ps = more g (pairs_in parts ++ ps)
