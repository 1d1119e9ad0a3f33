use Rattle.typing.proofs.NodeRule.{rule_is_the_rules}
use Rattle.typing.proofs.theorems.rule_is_the_rules.Goals as goal

pub returns : goal.returns
returns c = rule_is_the_rules
