-- Worked strings: what some trees alone give at four labels. Assumes nothing.
use Rattle.std.specs.Prelude.{◌≡◌, ℕ, List, [], ◌∷◌, map}
use Rattle.syntax.specs.Trees.{Forest, none, grow}
use Rattle.syntax.specs.declared.argument.Argument.{Argument}
use Rattle.syntax.specs.declared.argument.Argument.TheVariants as argument
use Rattle.syntax.specs.declared.argument.Symbol.{Symbol}
use Rattle.syntax.specs.declared.kind.Kind.{Kind}
use Rattle.syntax.specs.declared.kind.Kind.TheVariants as kind
use Rattle.syntax.specs.declared.label.Label.TheVariants.{Row}
use Rattle.typing.specs.Typings.{strings}

-- trees as lists of one, so that they can stand beside each other
abbrev pub leaf : Kind → Argument → Forest Symbol
leaf k a = grow (record { kind = k; argument = a }) none none

abbrev pub over : Kind → Argument → Forest Symbol → Forest Symbol
over k a children = grow (record { kind = k; argument = a }) children none

abbrev pub beside : Forest Symbol → Forest Symbol → Forest Symbol
beside none g = g
beside (grow s c f) g = grow s c (beside f g)

abbrev pub letter : ℕ → Argument
letter b = argument.Name (record { 0 = b ∷ 0 ∷ 0 ∷ 0 ∷ [] })

abbrev pub named : ℕ → Forest Symbol
named b = leaf kind.Var (letter b)

abbrev pub worked : List (Forest Symbol × List ℕ)
worked =
    (leaf kind.Hole argument.Nothing, 0 ∷ 0 ∷ 0 ∷ 1 ∷ 0 ∷ 5 ∷ []) ∷
    (over kind.Lam (letter 120) (named 120), 0 ∷ 0 ∷ 0 ∷ 0 ∷ 0 ∷ 1 ∷ 5 ∷ 5 ∷ []) ∷
    (over kind.App argument.Nothing (beside (named 120) (named 120)), 1 ∷ 1 ∷ 0 ∷ 0 ∷ []) ∷
    (over kind.Lam (letter 120) (over kind.App argument.Nothing (beside (named 120) (named 120))), 0 ∷ 1 ∷ 0 ∷ 0 ∷ 0 ∷ 1 ∷ 5 ∷ 6 ∷ []) ∷
    (over kind.Lam (letter 115) (over kind.Sel (argument.Label Row) (named 115)), 0 ∷ 0 ∷ 0 ∷ 0 ∷ 0 ∷ 1 ∷ 2 ∷ 4 ∷ 5 ∷ 6 ∷ 7 ∷ 8 ∷ 5 ∷ []) ∷
    (over kind.Ext (argument.Label Row) (beside (leaf kind.Nil argument.Nothing) (leaf kind.Num (argument.Number 7))), 0 ∷ 0 ∷ 0 ∷ 0 ∷ 0 ∷ 2 ∷ 4 ∷ 0 ∷ 3 ∷ 3 ∷ 3 ∷ []) ∷
    (over kind.App argument.Nothing (beside (named 120) (named 121)), 0 ∷ 0 ∷ 0 ∷ 0 ∷ 2 ∷ 120 ∷ 0 ∷ 0 ∷ 0 ∷ 1 ∷ 5 ∷ 6 ∷ 121 ∷ 0 ∷ 0 ∷ 0 ∷ 5 ∷ 6 ∷ []) ∷
    []

-- each tree of the table alone gives its string
abbrev pub Worked : Type 0
Worked = map (λ row. strings 4 row.0) worked ≡ map (λ row. row.1 ∷ []) worked
