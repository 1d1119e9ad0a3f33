-- What the typing reading gives for a rule. Assumes nothing.
use Rattle.std.proofs.Common.{◌≡◌, [], ◌∷◌, get_or, refl, ap, ◌∙◌, ap₂, arith}
use Rattle.reading.specs.Readings.{gives, all_give}
use Rattle.syntax.specs.Rules.{Rule}
use Rattle.syntax.specs.Trees.{Forest, none, grow, Tree, node}
use Rattle.syntax.specs.declared.argument.Symbol.{Symbol}
use Rattle.typing.specs.Strings.{typing_bytes}
use Rattle.typing.specs.TreeTypings.{tree_typing}
use Rattle.typing.specs.Typings.{rule, strings}
use Rattle.typing.proofs.Clean.{closed_and_clean}
use Rattle.typing.proofs.StringRule.{strings_spell_typings}
use Rattle.typing.proofs.TreeRule.{is_counted, most_general}
use Rattle.inference.specs.Nodes.{typed}
use Rattle.types.specs.GivenTypings.{GivesTypings}

all_strings : (f : Forest Symbol) → all_give typed f ≡ strings 4 f
all_strings none = refl
all_strings (grow s c f) = ap₂ ◌∷◌ (ap (rule 4 s.kind s.argument) (all_strings c)) (all_strings f)

spelled : (t : Tree Symbol) → Rule t → gives typed t ≡ typing_bytes (tree_typing 4 t)
spelled (node s c) well =
    ap (rule 4 s.kind s.argument) (all_strings c) ∙ ap (λ xs. get_or xs 0 []) (strings_spell_typings 4 (grow s c none) (omega arith) well)

pub gives_typings : GivesTypings
gives_typings t well =
    record { spelled = spelled t well; judges = most_general 4 t (omega arith) well; counts = is_counted 4 t; closed = closed_and_clean 4 t (omega arith) well }
