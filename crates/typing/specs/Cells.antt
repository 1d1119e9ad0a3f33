-- Unification over a graph of cells. A cell is a variable, a link to another cell, a head, or one
-- cell applied to another. Computes; `Solve` says what for. Assumes nothing.
use Rattle.std.specs.Prelude.{ℕ, zero, suc, ◌+◌, ◌*◌, min, max, Bool, true, false, cond, ◌&&◌, List, [], ◌∷◌, ◌++◌, length, replicate, Some, None, Option, ◌==◌, slice_index_or, slice_set}
use Rattle.typing.specs.Heads.{token_of}
use Rattle.typing.specs.Terms.{Term, var, head, ◌·◌}
pub use Rattle.typing.specs.declared.cell.Cell.{Cell}
pub use Rattle.typing.specs.declared.cell.Cell.TheVariants.{Free as free, Link as link, Atom as atom, Apply as apply}

abbrev pub Graph : Type 0
Graph = List Cell

abbrev pub Pairs : Type 0
Pairs = List (ℕ × ℕ)

abbrev pub cell : Graph → ℕ → Cell
cell g i = slice_index_or g i free

-- Links lead to cells of smaller numbers, so a cell's own number bounds how many are followed.
abbrev pub hop : Cell → ℕ → (ℕ → ℕ) → ℕ
hop free i on = i
hop (link j) i on = on j
hop (atom h) i on = i
hop (apply a b) i on = i

abbrev pub chase : ℕ → Graph → ℕ → ℕ
chase zero g i = i
chase (suc more) g i = hop (cell g i) i (chase more g)

abbrev pub find : Graph → ℕ → ℕ
find g i = chase i g i

-- What two cells become when they are made one, and the cells that then have to be equal too; or
-- nothing, if no term is both.
abbrev pub meet : Cell → Cell → Option (Cell × Pairs)
meet free c = Some (c, [])
meet (link k) c = None
meet (atom h) free = Some (atom h, [])
meet (atom h) (link k) = None
meet (atom h) (atom k) = cond (token_of h == token_of k) (Some (atom h, [])) None
meet (atom h) (apply a b) = None
meet (apply a b) free = Some (apply a b, [])
meet (apply a b) (link k) = None
meet (apply a b) (atom h) = None
meet (apply a b) (apply c d) = Some (apply a b, (a, c) ∷ (b, d) ∷ [])

pub data Outcome : Type 0 where
  clash : Outcome
  solved : Graph → Outcome
  more : Graph → Pairs → Outcome

-- the cell at `low` becomes c, and the one at `high` a link to it
abbrev pub linked : Graph → ℕ → ℕ → Cell → Graph
linked g low high c = slice_set (slice_set g low c) high (link low)

abbrev pub settle : Graph → ℕ → ℕ → Pairs → Option (Cell × Pairs) → Outcome
settle g low high ps None = clash
settle g low high ps (Some m) = more (linked g low high m.0) (m.1 ++ ps)

abbrev pub unite : Bool → Graph → ℕ → ℕ → Pairs → Outcome
unite true g low high ps = more g ps
unite false g low high ps = settle g low high ps (meet (cell g low) (cell g high))

-- one pair of cells is made equal
abbrev pub step : Graph → Pairs → Outcome
step g [] = solved g
step g (p ∷ ps) =
    let a = find g p.0 in
    let b = find g p.1 in
    unite (a == b) g (min a b) (max a b) ps

abbrev pub after : Outcome → (Graph → Pairs → Option Graph) → Option Graph
after clash on = None
after (solved g) on = Some g
after (more g ps) on = on g ps

abbrev pub run : ℕ → Graph → Pairs → Option Graph
run zero g ps = None
run (suc fuel) g ps = after (step g ps) (run fuel)

-- Each step makes a cell a link and leaves at most two more pairs, or leaves one pair less.
abbrev pub unify : Graph → Pairs → Option Graph
unify g ps = run (3 * length g + length ps + 1) g ps

-- Whether no way down from a cell comes back to a cell that it went through: `passed` marks those.
abbrev pub below : Bool → Cell → (ℕ → Bool) → Bool
below true c on = false
below false free on = true
below false (link j) on = true
below false (atom h) on = true
below false (apply a b) on = on a && on b

abbrev pub grounded : ℕ → Graph → List Bool → ℕ → Bool
grounded zero g passed i = false
grounded (suc fuel) g passed i =
    let r = find g i in
    below (slice_index_or passed r false) (cell g r) (grounded fuel g (slice_set passed r true))

abbrev pub every : ℕ → (ℕ → Bool) → Bool
every zero test = true
every (suc n) test = test n && every n test

-- No cell is reached from its own parts: the occurs check, over all cells.
abbrev pub acyclic : Graph → Bool
acyclic g = every (length g) (grounded (suc (length g)) g (replicate (length g) false))

-- the term that a cell stands for; its variables are the numbers of free cells
abbrev pub unroll : Cell → ℕ → (ℕ → Term) → Term
unroll free i on = var i
unroll (link j) i on = var i
unroll (atom h) i on = head h
unroll (apply a b) i on = on a · on b

abbrev pub readback : ℕ → Graph → ℕ → Term
readback zero g i = var i
readback (suc fuel) g i =
    let r = find g i in
    unroll (cell g r) r (readback fuel g)

abbrev pub term_of : Graph → ℕ → Term
term_of g i = readback (suc (length g)) g i
