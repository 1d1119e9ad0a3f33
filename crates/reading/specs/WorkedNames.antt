-- Rules and the strings that the names reading gives them, worked out by hand. Assumes nothing.
use Rattle.std.specs.Prelude.{◌≡◌, ℕ, zero, suc, ◌+◌, ◌/◌, ◌%◌, List, [], ◌∷◌, map}
use Rattle.syntax.specs.Trees.{Forest, none, grow, Tree, node}
use Rattle.syntax.specs.declared.argument.Argument.TheVariants as argument
use Rattle.syntax.specs.declared.argument.Symbol.{Symbol}
use Rattle.syntax.specs.declared.kind.Kind.TheVariants.{Hole, Var, Lam, App, Add}
use Rattle.syntax.specs.declared.name.Name.{Name}
use Rattle.reading.specs.NamesRule.{named}
use Rattle.reading.specs.Readings.{gives}

abbrev letter : ℕ → Name
letter b = record { 0 = b ∷ (0 ∷ (0 ∷ (0 ∷ []))) }

-- aa, ab and so on
abbrev pair : ℕ → Name
pair k = record { 0 = (97 + k / 26) ∷ ((97 + k % 26) ∷ (0 ∷ (0 ∷ []))) }

abbrev variable : Name → Forest Symbol → Forest Symbol
variable n f = grow (record { kind = Var; argument = argument.Name n }) none f

abbrev function : Name → Forest Symbol → Forest Symbol
function n body = grow (record { kind = Lam; argument = argument.Name n }) body none

-- the sum of the variables pair k down to pair 0
abbrev sums : ℕ → Forest Symbol
sums zero = variable (pair 0) none
sums (suc k) = grow (record { kind = Add; argument = argument.Nothing }) (variable (pair (suc k)) (sums k)) none

-- the bytes of pair i and those that follow it
abbrev pairs : ℕ → ℕ → List ℕ
pairs zero i = []
pairs (suc n) i = (97 + i / 26) ∷ ((97 + i % 26) ∷ (0 ∷ (0 ∷ pairs n (suc i))))

abbrev top : Forest Symbol → Tree Symbol
top none = node (record { kind = Hole; argument = argument.Nothing }) none
top (grow s c f) = node s c

-- x applied to y
abbrev x_of_y : Forest Symbol
x_of_y = grow (record { kind = App; argument = argument.Nothing }) (variable (letter 120) (variable (letter 121) none)) none

-- a rule, and its string
abbrev pub worked : List (Tree Symbol × List ℕ)
worked =
    (top (variable (letter 120) none), 3 ∷ (1 ∷ (120 ∷ (0 ∷ (0 ∷ (0 ∷ []))))))
    ∷ ((top x_of_y, 3 ∷ (2 ∷ (120 ∷ (0 ∷ (0 ∷ (0 ∷ (121 ∷ (0 ∷ (0 ∷ (0 ∷ []))))))))))
    ∷ ((top (function (letter 120) x_of_y), 3 ∷ (1 ∷ (121 ∷ (0 ∷ (0 ∷ (0 ∷ []))))))
    ∷ ((top (function (letter 121) (function (letter 120) x_of_y)), 3 ∷ (0 ∷ []))
    ∷ ((top (sums 62), 3 ∷ (63 ∷ pairs 63 0))
    ∷ ((top (sums 63), 4 ∷ [])
    ∷ ((top (function (pair 0) (sums 62)), 3 ∷ (62 ∷ pairs 62 1))
    ∷ ((top (function (pair 0) (sums 63)), 4 ∷ []) ∷ [])))))))

-- the definitions give every string of the table
abbrev pub Works : Type 0
Works = map (λ row. gives named row.0) worked ≡ map (λ row. row.1) worked
