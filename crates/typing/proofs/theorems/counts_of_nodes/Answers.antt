use Rattle.typing.proofs.TreeRule.{is_counted}
use Rattle.typing.proofs.theorems.counts_of_nodes.Goals as goal

pub returns : goal.returns
returns c = is_counted
