use Rattle.forms.proofs.Outlining.{bare_ends}
use Rattle.forms.proofs.theorems.bare_ends.Goals as goal

pub returns : goal.returns
returns c = bare_ends
