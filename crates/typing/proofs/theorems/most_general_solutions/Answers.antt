use Rattle.typing.proofs.Solving.{solves_exactly}
use Rattle.typing.proofs.theorems.most_general_solutions.Goals as goal

pub returns : goal.returns
returns c = solves_exactly
