use Rattle.typing.proofs.StringRule.{strings_spell_typings}
use Rattle.typing.proofs.theorems.strings_spell_typings.Goals as goal

pub returns : goal.returns
returns c = strings_spell_typings
