use Rattle.typing.proofs.Clean.{closed_and_clean}
use Rattle.typing.proofs.theorems.closed_and_clean.Goals as goal

pub returns : goal.returns
returns c = closed_and_clean
