use Rattle.typing.proofs.Posing.{any_graph_solves}
use Rattle.typing.proofs.theorems.any_graph_solves.Goals as goal

pub returns : goal.returns
returns c = any_graph_solves
