-- What the typing reading says of a rule, in the words of the typing relation. Assumes nothing.
use Rattle.std.specs.Prelude.{◌≡◌}
use Rattle.reading.specs.Readings.{gives}
use Rattle.syntax.specs.Rules.{Rule}
use Rattle.syntax.specs.Trees.{Tree}
use Rattle.syntax.specs.declared.argument.Symbol.{Symbol}
use Rattle.typing.specs.Judgements.{Judges}
use Rattle.typing.specs.Rules.{Has}
use Rattle.typing.specs.Strings.{typing_bytes}
use Rattle.typing.specs.TreeTypings.{Closed, Counts, mended_below, tree_typing}
use Rattle.inference.specs.Nodes.{typed}

-- What a rule alone gives spells its typing. The form stands for just the pairs of context and type that
-- the relation gives the rule in which every faulty part below the top is a hole; the counts are those
-- of its clashes, overlong nodes and holes; and all figures are zero exactly if the rule is well typed,
-- with the instances of the form's type.
pub record TypingGiven (t : Tree Symbol) : Type 0 where
  pub spelled : gives typed t ≡ typing_bytes (tree_typing 4 t)
  pub judges : Judges 4 (λ Γ A. Has 4 Γ (mended_below 4 t) A) (tree_typing 4 t).status
  pub counts : Counts 4 t (tree_typing 4 t)
  pub closed : Closed 4 t

abbrev pub GivesTypings : Type 0
GivesTypings = (t : Tree Symbol) → Rule t → TypingGiven t
