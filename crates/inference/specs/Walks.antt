-- What a walk down a graph of cells leaves, for the occurs check. Assumes nothing.
use Rattle.std.specs.Prelude.{◌≡◌, ℕ, ◌+◌, ◌<◌, ◌≤◌, List, [], ◌∷◌, slice_index_or}
use Rattle.typing.specs.Cells.{Graph, cell, find}
use Rattle.typing.specs.declared.cell.Cell.{Cell}
use Rattle.typing.specs.declared.cell.Cell.TheVariants.{Free as free, Link as link, Atom as atom, Apply as apply}
use Rattle.typing.specs.Solutions.{Solves}
use Rattle.typing.specs.Terms.{Term}
use Rattle.typing.specs.Sizes.{size}
use Rattle.inference.specs.declared.cycle.Mark.{Mark}
use Rattle.inference.specs.declared.cycle.Mark.TheVariants.{Unseen, Open, Done}

abbrev pub mark : List Mark → ℕ → Mark
mark ms i = slice_index_or ms i Unseen

abbrev pub is_unseen : Mark → ℕ
is_unseen Unseen = 1
is_unseen Open = 0
is_unseen Done = 0

-- how many cells are not entered yet
abbrev pub unseen : List Mark → ℕ
unseen [] = 0
unseen (m ∷ ms) = is_unseen m + unseen ms

-- a solution's term at i is smaller than at each open cell
abbrev pub Under : (ℕ → Term) → List Mark → ℕ → Type 0
Under σ ms i = (o : ℕ) → mark ms o ≡ Open → size (σ i) < size (σ o)

-- there is no such solution
abbrev pub Sinks : Graph → List Mark → ℕ → Type 0
Sinks g ms i = (σ : ℕ → Term) → Solves σ g → Under σ ms i → ⊥

-- a part's root is done, and ranks below r
pub record Ranks (g : Graph) (ms : List Mark) (rank : ℕ → ℕ) (r i : ℕ) : Type 0 where
  pub done : mark ms (find g i) ≡ Done
  pub lower : rank (find g i) < r

abbrev pub PartsRank : Graph → List Mark → (ℕ → ℕ) → ℕ → Cell → Type 0
PartsRank g ms rank r free = Unit {0}
PartsRank g ms rank r (link j) = Unit {0}
PartsRank g ms rank r (atom h) = Unit {0}
PartsRank g ms rank r (apply a b) = Ranks g ms rank r a × Ranks g ms rank r b

-- the cells that are done can be ranked, each above its parts
abbrev pub Ranked : Graph → List Mark → Type 0
Ranked g ms = (rank : ℕ → ℕ) × ((o : ℕ) → mark ms o ≡ Done → PartsRank g ms rank (rank o) (cell g o))

pub record Walked (g : Graph) (ms : List Mark) (i : ℕ) (ms' : List Mark) : Type 0 where
  pub fewer : unseen ms' ≤ unseen ms
  pub reached : mark ms' (find g i) ≡ Done
  pub opened : (o : ℕ) → mark ms' o ≡ Open → mark ms o ≡ Open
  pub still_open : (o : ℕ) → mark ms o ≡ Open → mark ms' o ≡ Open
  pub still_done : (o : ℕ) → mark ms o ≡ Done → mark ms' o ≡ Done
  pub ranked : Ranked g ms → Ranked g ms'

-- no cell is entered yet
abbrev pub Fresh : List Mark → Type 0
Fresh ms = (o : ℕ) → mark ms o ≡ Unseen
