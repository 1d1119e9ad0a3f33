use Rattle.inference.proofs.Unifying.{fresh_none}
use Rattle.inference.proofs.cycle.unmarked.Goals as goal

pub returns : goal.returns
returns c = fresh_none 1440
