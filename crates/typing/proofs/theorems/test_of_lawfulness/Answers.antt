use Rattle.typing.proofs.StringsRead.{test_of_lawfulness}
use Rattle.typing.proofs.theorems.test_of_lawfulness.Goals as goal

pub returns : goal.returns
returns c = test_of_lawfulness
