use Rattle.std.proofs.Common.{length, ap, ◌∙◌}
use Rattle.inference.proofs.Slotting.{no_place}
use Rattle.inference.proofs.entries.Entries.insert.Goals as goal

pub returns-in-Err-try_insert : goal.returns-in-Err-try_insert
returns-in-Err-try_insert c =
    rw c.as_slice.ensures.value at (no_place _ _ _ c.in-Err.ensures.0 c.in-Err.ensures.1 (ap length c.as_slice.ensures.value ∙ c.in-Err-try_insert.ensures.full))
