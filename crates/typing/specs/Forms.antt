-- Contexts, forms, and what a form stands for. Assumes nothing.
use Rattle.std.specs.Prelude.{◌≡◌, ℕ, Bool, true, false, cond, ◌&&◌, List, [], ◌∷◌, ◌++◌, Some, None, Option, ◌==◌}
use Rattle.typing.specs.Terms.{Term, var, GroundType, fill, variables}

-- a name is its four bytes
abbrev pub Name : Type 0
Name = List ℕ

abbrev pub same : Name → Name → Bool
same [] [] = true
same [] (c ∷ cs) = false
same (b ∷ bs) [] = false
same (b ∷ bs) (c ∷ cs) = b == c && same bs cs

-- A context gives types to some names.
abbrev pub Context : Type 0
Context = Name → Option Term

abbrev pub Grounded : ℕ → Context → Type 0
Grounded labels Γ = (n : Name) (A : Term) → Γ n ≡ Some A → GroundType labels A

abbrev pub nothing : Context
nothing n = None

-- the context in which the name n has the type A
abbrev pub given : Name → Term → Context → Context
given n A Γ m = cond (same n m) (Some A) (Γ m)

-- types for some names, in the order of the names, and a type
pub record Form : Type 0 where
  pub entries : List (Name × Term)
  pub result : Term

-- the form of a hole stands for every pair
abbrev pub hole_form : Form
hole_form = record { entries = []; result = var 0 }

abbrev pub Agrees : (ℕ → Term) → List (Name × Term) → Context → Type 0
Agrees ρ [] Γ = Unit {0}
Agrees ρ (e ∷ es) Γ = (Γ e.0 ≡ Some (fill ρ e.1)) × Agrees ρ es Γ

-- A form stands for the pairs of a context and a ground type that are got by filling its variables.
-- Names that it does not list may have any ground type or none.
pub record Stands (labels : ℕ) (F : Form) (Γ : Context) (A : Term) : Type 0 where
  pub context : Grounded labels Γ
  pub ground : GroundType labels A
  pub values : ℕ → Term
  pub agrees : Agrees values F.entries Γ
  pub is : A ≡ fill values F.result

abbrev pub entry_variables : List (Name × Term) → List ℕ
entry_variables [] = []
entry_variables (e ∷ es) = variables e.1 ++ entry_variables es

-- the variables of a form in the order in which they appear
abbrev pub form_variables : Form → List ℕ
form_variables F = entry_variables F.entries ++ variables F.result
