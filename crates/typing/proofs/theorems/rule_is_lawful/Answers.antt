use Rattle.typing.proofs.StringRule.{rule_is_lawful}
use Rattle.typing.proofs.theorems.rule_is_lawful.Goals as goal

pub returns : goal.returns
returns c = rule_is_lawful
