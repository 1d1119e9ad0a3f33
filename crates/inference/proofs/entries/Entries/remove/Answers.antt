use Rattle.std.proofs.Common.{rules}
use Rattle.inference.proofs.Slotting.{retained}
use Rattle.inference.proofs.entries.Entries.remove.Goals as goal

pub returns-clause-slots : goal.returns-clause-slots
returns-clause-slots c = retained _ c.args.name.0 _ (λ e b t y call. search rules) _ _ c.retain.ensures.filtered
