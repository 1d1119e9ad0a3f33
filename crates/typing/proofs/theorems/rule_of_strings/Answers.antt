use Rattle.typing.proofs.StringRule.{rule_of_strings}
use Rattle.typing.proofs.theorems.rule_of_strings.Goals as goal

pub returns : goal.returns
returns c = rule_of_strings
