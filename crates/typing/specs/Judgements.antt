-- What the status of a node means, in the words of the typing rules. Assumes nothing.
use Rattle.std.specs.Prelude.{◌≡◌, ℕ, ◌<◌, ◌≤◌, true, List, [], ◌∷◌, map, length, slice_index_or}
use Rattle.syntax.specs.Arguments.{fits}
use Rattle.syntax.specs.Kinds.{arity}
use Rattle.syntax.specs.declared.argument.Symbol.{Symbol}
use Rattle.typing.specs.Forms.{Context, Grounded, Form, hole_form, Stands}
use Rattle.typing.specs.Rules.{Pairs, Rule}
use Rattle.typing.specs.Strings.{Status, formed, clashed, overlong, Sound, Typing, GoodTyping, form_bytes, longest}
use Rattle.typing.specs.Terms.{Term, GroundType}
use Rattle.typing.specs.Typings.{form_of, node_status}

-- Some pair of a context and a ground type is in the set.
pub record Inhabited (labels : ℕ) (R : Pairs) : Type 0 where
  pub context : Context
  pub of : Term
  pub grounded : Grounded labels context
  pub ground : GroundType labels of
  pub holds : R context of

-- the form stands for the pairs of the set, and for no others
pub record IsFormOf (labels : ℕ) (R : Pairs) (F : Form) : Type 0 where
  pub sound : Sound labels F
  pub inhabited : Inhabited labels R
  pub onto : (Γ : Context) (A : Term) → Grounded labels Γ → GroundType labels A → R Γ A → Stands labels F Γ A
  pub back : (Γ : Context) (A : Term) → Stands labels F Γ A → R Γ A

-- The status of a node whose rule holds of the pairs in R: a form that stands for them; a clash, if there
-- are none; overlong, if there are some and their form is too long.
abbrev pub Judges : (labels : ℕ) → Pairs → Status → Type 0
Judges labels R (formed F) = IsFormOf labels R F × (length (form_bytes F) ≤ longest)
Judges labels R clashed = (Γ : Context) (A : Term) → Grounded labels Γ → GroundType labels A → R Γ A → ⊥
Judges labels R overlong = (F : Form) × IsFormOf labels R F × (longest < length (form_bytes F))

abbrev pub GoodTypings : ℕ → List Typing → Type 0
GoodTypings labels [] = Unit {0}
GoodTypings labels (T ∷ Ts) = GoodTyping labels T × GoodTypings labels Ts

-- the pairs of child j: those of its form, and all pairs if it is faulty
abbrev pub pairs_of : (labels : ℕ) → List Typing → ℕ → Pairs
pairs_of labels Ts j = Stands labels (slice_index_or (map (λ T. form_of T.status) Ts) j hole_form)

-- The rule is the rules: a node's status is what its kind's rule says over the pairs of its children.
abbrev pub RuleIsTheRules : Type 0
RuleIsTheRules =
    (labels : ℕ) (s : Symbol) (Ts : List Typing) → 4 ≤ labels → fits s ≡ true → length Ts ≡ arity s.kind → GoodTypings labels Ts → Judges labels (Rule labels s.kind s.argument (pairs_of labels Ts)) (node_status labels s.kind s.argument Ts)
