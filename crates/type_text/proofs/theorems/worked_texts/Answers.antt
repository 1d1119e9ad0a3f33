use Rattle.type_text.proofs.Examples.{worked_texts}
use Rattle.type_text.proofs.theorems.worked_texts.Goals as goal

pub returns : goal.returns
returns c = worked_texts
