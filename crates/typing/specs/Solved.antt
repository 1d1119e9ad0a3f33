-- What solving a problem means: the form that is found is the most general one. Assumes nothing.
use Rattle.std.specs.Prelude.{◌≡◌, ℕ, ◌<◌, List, [], ◌∷◌, Some, None, Option}
use Rattle.typing.specs.Forms.{Context, Grounded, Form, Agrees, Stands, form_variables}
use Rattle.typing.specs.Heads.{Sort, type}
use Rattle.typing.specs.Solve.{Equations, Problem, filled, solve}
use Rattle.typing.specs.Strings.{Types, Numbered}
use Rattle.typing.specs.Terms.{Term, var, head, ◌·◌, fill, Sorted, GroundType}

-- the equations hold where the variables have these values
abbrev pub Holds : (ℕ → Term) → Equations → Type 0
Holds ρ [] = Unit {0}
Holds ρ (e ∷ es) = (fill ρ e.0 ≡ fill ρ e.1) × Holds ρ es

-- every variable is below n
abbrev pub Bounded : ℕ → Term → Type 0
Bounded n (var k) = k < n
Bounded n (head h) = Unit {0}
Bounded n (f · x) = Bounded n f × Bounded n x

abbrev pub AllBounded : ℕ → Equations → Type 0
AllBounded n [] = Unit {0}
AllBounded n (e ∷ es) = Bounded n e.0 × Bounded n e.1 × AllBounded n es

abbrev pub EntriesBounded : ℕ → List (List ℕ × Term) → Type 0
EntriesBounded n [] = Unit {0}
EntriesBounded n (e ∷ es) = Bounded n e.1 × EntriesBounded n es

-- a problem over its own unknowns
pub record Posed (P : Problem) : Type 0 where
  pub equations : AllBounded P.unknowns P.equations
  pub entries : EntriesBounded P.unknowns P.form.entries
  pub result : Bounded P.unknowns P.form.result

-- The equations have no solution; or the instances of the form that is found are the instances of
-- the problem's form under the solutions of its equations, all of them and no others.
abbrev pub Answers : Problem → Option Form → Type 0
Answers P None = (ρ : ℕ → Term) → Holds ρ P.equations → ⊥
Answers P (Some F) =
    ((ρ : ℕ → Term) → Holds ρ P.equations → (τ : ℕ → Term) × (filled τ F ≡ filled ρ P.form)) × ((τ : ℕ → Term) → (ρ : ℕ → Term) × Holds ρ P.equations × (filled τ F ≡ filled ρ P.form))

abbrev pub SolvesExactly : Type 0
SolvesExactly = (P : Problem) → Posed P → Answers P (solve P)

-- the form's variables are numbered by first appearance
abbrev pub NumberedForm : Option Form → Type 0
NumberedForm None = Unit {0}
NumberedForm (Some F) = Numbered 0 (form_variables F)

-- A problem has one answer whose variables are numbered so.
abbrev pub AtMostOneForm : Type 0
AtMostOneForm = (P : Problem) (o o' : Option Form) → Answers P o → Answers P o' → NumberedForm o → NumberedForm o' → o ≡ o'

-- both sides of each equation have one sort
abbrev pub EquationsSorted : (ℕ → Sort → Type 0) → ℕ → Equations → Type 0
EquationsSorted V labels [] = Unit {0}
EquationsSorted V labels (e ∷ es) =
    ((s : Sort) × Sorted V labels [] s e.0 × Sorted V labels [] s e.1) × EquationsSorted V labels es

-- a problem whose unknowns have sorts, over which it makes sense
pub record WellSorted (labels : ℕ) (P : Problem) : Type 0 where
  pub sorts : ℕ → Sort
  pub equations : EquationsSorted (λ k s. sorts k ≡ s) labels P.equations
  pub entries : Types (λ k s. sorts k ≡ s) labels P.form.entries
  pub result : Sorted (λ k s. sorts k ≡ s) labels [] type P.form.result

-- The pair of context and type is got from a solution that gives each unknown a ground term of its sort.
pub record Satisfies (labels : ℕ) (P : Problem) (sorts : ℕ → Sort) (Γ : Context) (A : Term) : Type 0 where
  pub values : ℕ → Term
  pub sorted : (k : ℕ) → k < P.unknowns → Sorted (λ j s. ⊥) labels [] (sorts k) (values k)
  pub holds : Holds values P.equations
  pub agrees : Agrees values P.form.entries Γ
  pub is : A ≡ fill values P.form.result

-- The form stands for just the pairs that satisfy the problem, and is itself sorted.
pub record Exact (labels : ℕ) (P : Problem) (sorts : ℕ → Sort) (F : Form) : Type 0 where
  pub form_sorts : ℕ → Sort
  pub entries : Types (λ k s. form_sorts k ≡ s) labels F.entries
  pub result : Sorted (λ k s. form_sorts k ≡ s) labels [] type F.result
  pub onto : (Γ : Context) (A : Term) → Grounded labels Γ → GroundType labels A → Satisfies labels P sorts Γ A → Stands labels F Γ A
  pub back : (Γ : Context) (A : Term) → Stands labels F Γ A → Satisfies labels P sorts Γ A

abbrev pub AnswersSorted : (labels : ℕ) (P : Problem) → (ℕ → Sort) → Option Form → Type 0
AnswersSorted labels P sorts None = (Γ : Context) (A : Term) → Satisfies labels P sorts Γ A → ⊥
AnswersSorted labels P sorts (Some F) = Exact labels P sorts F

abbrev pub SolvesExactlySorted : Type 0
SolvesExactlySorted = (labels : ℕ) (P : Problem) → Posed P → (W : WellSorted labels P) → AnswersSorted labels P W.sorts (solve P)
