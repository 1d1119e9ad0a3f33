use Rattle.inference.specs.Drafts.{state_of}
use Rattle.inference.proofs.DraftSteps.{lays_at}
use Rattle.inference.proofs.draft.Draft.lay.Goals as goal

pub returns : goal.returns
returns c = lays_at _ _ (state_of c.args.self.now) _ _ c.lay_term.ensures.lays
