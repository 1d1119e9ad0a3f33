use Rattle.types.proofs.Giving.{gives_typings}
use Rattle.types.proofs.Types.new.Goals as goal

pub returns-in_err-meter-clause-typings : goal.returns-in_err-meter-clause-typings
returns-in_err-meter-clause-typings c = gives_typings

pub returns-clause-typings : goal.returns-clause-typings
returns-clause-typings c = gives_typings
