-- What is laid out off bytes that spell terms. Assumes nothing.
use Rattle.std.specs.Prelude.{◌≡◌, ℕ, ◌+◌, ◌≤◌, List, [], ◌∷◌, ◌++◌, map, length, IfOk, Result, MatchResult}
use Rattle.std.specs.Borrow.{Bor}
use Rattle.layout.specs.Groups.{Group}
use Rattle.syntax.specs.declared.fault.Fault.{Fault}
use Rattle.typing.specs.Cells.{Graph}
use Rattle.typing.specs.Heads.{Sort, parts_of}
use Rattle.typing.specs.Solve.{lay}
use Rattle.typing.specs.Strings.{term_bytes}
use Rattle.typing.specs.declared.head.Head.{Head}
use Rattle.inference.specs.Tables.{most_cells}
use Rattle.typing.specs.Terms.{Term, var, head, fill, applied, Sorted}

-- a number, which is a token or a cell, and the bytes behind what was read
abbrev pub Answer : Type 0
Answer = Result (ℕ × Bor (List ℕ)) Fault

-- a term of four labels whose tokens are group numbers
abbrev pub Legible : List Sort → Sort → Term → Type 0
Legible needs s t = Sorted (λ k q. Group (5 + k)) 4 needs s t

abbrev pub EachLegible : List Term → Type 0
EachLegible [] = Unit {0}
EachLegible (t ∷ ts) = ((s : Sort) × Legible [] s t) × EachLegible ts

abbrev pub terms_bytes : List Term → List ℕ
terms_bytes [] = []
terms_bytes (t ∷ ts) = term_bytes t ++ terms_bytes ts

-- the term over the cells from `base` on
abbrev pub shift : ℕ → Term → Term
shift base t = fill (λ k. var (base + k)) t

-- The term is laid out, and `rest` is behind it.
abbrev pub Out : Term → List ℕ → Graph → Graph → Answer → Type 0
Out t rest g g' r = MatchResult r (λ p. (g' ≡ (lay t g).0) × (p.0 ≡ (lay t g).1) × (p.1.now ≡ rest)) (λ fault. ⊥)

-- Bytes that begin with a term are laid out as that term, if there is room.
abbrev pub LaysTerm : ℕ → List ℕ → Graph → Graph → Answer → Type 0
LaysTerm base bytes g g' r =
    (s : Sort) (t : Term) (rest : List ℕ) → Legible [] s t → bytes ≡ term_bytes t ++ rest → length (lay (shift base t) g).0 ≤ most_cells → Out (shift base t) rest g g' r

-- The cell is that of f, and then that of f over all the terms.
abbrev pub LaysParts : ℕ → ℕ → ℕ → List ℕ → Graph → Graph → Answer → Type 0
LaysParts base cell count bytes g g' r =
    (g₀ : Graph) (f : Term) (ts : List Term) (rest : List ℕ) → g ≡ (lay f g₀).0 → cell ≡ (lay f g₀).1 → length ts ≡ count → EachLegible ts → bytes ≡ terms_bytes ts ++ rest → length (lay (applied f (map (shift base) ts)) g₀).0 ≤ most_cells → Out (applied f (map (shift base) ts)) rest g₀ g' r

-- The head over all its parts.
abbrev pub LaysHead : ℕ → Head → List ℕ → Graph → Graph → Answer → Type 0
LaysHead base h bytes g g' r =
    (ts : List Term) (rest : List ℕ) → length ts ≡ length (parts_of 4 h) → EachLegible ts → bytes ≡ terms_bytes ts ++ rest → length (lay (applied (head h) (map (shift base) ts)) g).0 ≤ most_cells → Out (applied (head h) (map (shift base) ts)) rest g g' r

-- so many bytes at least are taken
abbrev pub Takes : ℕ → List ℕ → Answer → Type 0
Takes some bytes r = IfOk r (λ p. length p.1.now + some ≤ length bytes)
