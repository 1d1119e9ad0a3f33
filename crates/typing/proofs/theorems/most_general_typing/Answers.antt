use Rattle.typing.proofs.TreeRule.{most_general}
use Rattle.typing.proofs.theorems.most_general_typing.Goals as goal

pub returns : goal.returns
returns c = most_general
