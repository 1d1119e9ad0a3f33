use Rattle.forms.proofs.Outlining.{form_stands}
use Rattle.forms.proofs.theorems.form_stands.Goals as goal

pub returns : goal.returns
returns c = form_stands
