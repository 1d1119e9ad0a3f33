-- The pairs on a stack as the code has it, and what a run of them leaves. Assumes nothing.
use Rattle.std.specs.Prelude.{ℕ, Some, None, Option, Result, Ok, Err, reverse}
use Rattle.arrayvec.specs.ArrayVec.{ArrayVec}
use Rattle.typing.specs.Cells.{Graph, Pairs}
use Rattle.inference.specs.declared.meeting.Clash.{Clash}

-- the pair that was pushed last is the first
abbrev pub pairs_of : ArrayVec (ℕ × ℕ) → Pairs
pairs_of stack = reverse stack.items

-- the graph that is left, or none where two cells clashed
abbrev pub unified : Result (Unit {0}) Clash → Graph → Option Graph
unified (Ok done) g = Some g
unified (Err e) g = None
