-- The solutions of a graph of cells: what each cell may stand for. Assumes nothing.
use Rattle.std.specs.Prelude.{◌≡◌, ℕ, ◌+◌, ◌<◌, [], ◌∷◌, length}
use Rattle.typing.specs.Cells.{Cell, free, link, atom, apply, Graph, Pairs, cell}
use Rattle.typing.specs.Terms.{Term, head, ◌·◌}

-- what a cell says of the term at its number
abbrev pub Fits : (ℕ → Term) → ℕ → Cell → Type 0
Fits σ i free = Unit {0}
Fits σ i (link j) = σ i ≡ σ j
Fits σ i (atom h) = σ i ≡ head h
Fits σ i (apply a b) = σ i ≡ σ a · σ b

-- a solution gives every cell a term, so that each is made of its parts and each link is its target
abbrev pub Solves : (ℕ → Term) → Graph → Type 0
Solves σ g = (i : ℕ) → Fits σ i (cell g i)

abbrev pub Equal : (ℕ → Term) → Pairs → Type 0
Equal σ [] = Unit {0}
Equal σ (p ∷ ps) = (σ p.0 ≡ σ p.1) × Equal σ ps

-- links lead to smaller numbers, and parts are cells of the graph
abbrev pub Proper : ℕ → ℕ → Cell → Type 0
Proper n i free = Unit {0}
Proper n i (link j) = j < i
Proper n i (atom h) = Unit {0}
Proper n i (apply a b) = (a < n) × (b < n)

-- a graph of n proper cells
pub record Tidy (n : ℕ) (g : Graph) : Type 0 where
  pub long : length g ≡ n
  pub proper : (i : ℕ) → Proper n i (cell g i)

abbrev pub Within : ℕ → Pairs → Type 0
Within n [] = Unit {0}
Within n (p ∷ ps) = (p.0 < n) × (p.1 < n) × Within n ps

abbrev pub NotLink : Cell → Type 0
NotLink free = Unit {0}
NotLink (link j) = ⊥
NotLink (atom h) = Unit {0}
NotLink (apply a b) = Unit {0}

-- how many cells are no link
abbrev pub weight : Cell → ℕ
weight free = 1
weight (link j) = 0
weight (atom h) = 1
weight (apply a b) = 1

abbrev pub live : Graph → ℕ
live [] = 0
live (c ∷ g) = weight c + live g
