-- Any graph of cells that poses a problem: every solution of the graph gives the unknowns, the
-- equations and the form their values. Assumes nothing.
use Rattle.std.specs.Prelude.{◌≡◌, ℕ, ◌<◌, cond, List, [], ◌∷◌, length, Some, None, Option}
use Rattle.typing.specs.Cells.{Graph, Pairs, unify, acyclic, term_of}
use Rattle.typing.specs.Forms.{Name, Form}
use Rattle.typing.specs.Solutions.{Solves, Equal, Tidy, Within}
use Rattle.typing.specs.Solve.{Problem, canonical, solve}
use Rattle.typing.specs.Solved.{Holds, Posed}
use Rattle.typing.specs.Terms.{Term, fill}

-- names with the cells of their types, and the cell of a type
pub record Slots : Type 0 where
  pub entries : List (Name × ℕ)
  pub result : ℕ

abbrev pub entries_at : Graph → List (Name × ℕ) → List (Name × Term)
entries_at g [] = []
entries_at g (s ∷ ss) = (s.0, term_of g s.1) ∷ entries_at g ss

abbrev pub form_at : Graph → Slots → Form
form_at g S = record { entries = entries_at g S.entries; result = term_of g S.result }

-- the form in the slots, once the cells are unified
abbrev pub finished_at : Slots → Option Graph → Option Form
finished_at S None = None
finished_at S (Some g) = cond (acyclic g) (Some (canonical (form_at g S))) None

-- the slots have the names and the values of the entries
abbrev pub Slotted : (ℕ → Term) → List (Name × ℕ) → List (Name × Term) → Type 0
Slotted σ [] [] = Unit {0}
Slotted σ [] (e ∷ es) = ⊥
Slotted σ (s ∷ ss) [] = ⊥
Slotted σ (s ∷ ss) (e ∷ es) = (s.0 ≡ e.0) × (σ s.1 ≡ fill σ e.1) × Slotted σ ss es

-- The cells are a graph of the problem: cell k is unknown k, whose value is free; the pairs are equal
-- exactly where the equations hold; the slots have the form's values.
pub record Poses (P : Problem) (g : Graph) (ps : Pairs) (S : Slots) : Type 0 where
  pub tidy : Tidy (length g) g
  pub within : Within (length g) ps
  pub onto : (ρ : ℕ → Term) → (σ : ℕ → Term) × Solves σ g × ((k : ℕ) → k < P.unknowns → σ k ≡ ρ k)
  pub equal : (σ : ℕ → Term) → Solves σ g → Holds σ P.equations → Equal σ ps
  pub holds : (σ : ℕ → Term) → Solves σ g → Equal σ ps → Holds σ P.equations
  pub entries : (σ : ℕ → Term) → Solves σ g → Slotted σ S.entries P.form.entries
  pub result : (σ : ℕ → Term) → Solves σ g → σ S.result ≡ fill σ P.form.result

-- Whatever graph poses the problem, unifying it gives the problem's form.
abbrev pub AnyGraphSolves : Type 0
AnyGraphSolves =
    (P : Problem) → Posed P → (g : Graph) (ps : Pairs) (S : Slots) → Poses P g ps S → finished_at S (unify g ps) ≡ solve P
