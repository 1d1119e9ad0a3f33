use Rattle.typing.proofs.Uniqueness.{at_most_one_form}
use Rattle.typing.proofs.theorems.one_form.Goals as goal

pub returns : goal.returns
returns c = at_most_one_form
