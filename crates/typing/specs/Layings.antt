-- What it is to lay a term out as cells behind those of a graph. Assumes nothing.
use Rattle.std.specs.Prelude.{◌≡◌, ℕ, ◌<◌, ◌≤◌, length}
use Rattle.typing.specs.Cells.{Graph}
use Rattle.typing.specs.Solutions.{Solves, Tidy}
use Rattle.typing.specs.Terms.{Term, fill}

-- functions that agree below n
abbrev pub Agree : ℕ → (ℕ → Term) → (ℕ → Term) → Type 0
Agree n σ τ = (i : ℕ) → i < n → σ i ≡ τ i

-- The graph g' goes on from g: it has no other solutions, and each of g goes on to one of g'.
pub record Laid (g g' : Graph) : Type 0 where
  pub longer : length g ≤ length g'
  pub tidy : Tidy (length g') g'
  pub back : (σ : ℕ → Term) → Solves σ g' → Solves σ g
  pub onto : (σ : ℕ → Term) → Solves σ g → (τ : ℕ → Term) × Solves τ g' × Agree (length g) τ σ

-- The term is laid out behind g: its cell has its value in every solution.
pub record Placed (t : Term) (g g' : Graph) (i : ℕ) : Type 0 where
  pub laid : Laid g g'
  pub inside : i < length g'
  pub value : (σ : ℕ → Term) → Solves σ g' → σ i ≡ fill σ t
