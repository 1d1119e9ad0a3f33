-- A problem as it is drafted over cells: a graph, the slots of the entries, and the pairs of cells that
-- have to be equal. Assumes nothing.
use Rattle.std.specs.Prelude.{◌≡◌, ℕ, ◌+◌, ◌<◌, ◌≤◌, List, [], ◌∷◌, ◌++◌, length, replicate, Result, MatchResult}
use Rattle.syntax.specs.declared.fault.Fault.{Fault}
use Rattle.typing.specs.Cells.{Graph, Pairs}
use Rattle.typing.specs.Constraints.{insert, width}
use Rattle.typing.specs.Forms.{Name, Form}
use Rattle.typing.specs.Heads.{Sort}
use Rattle.typing.specs.Posing.{Slotted}
use Rattle.typing.specs.Solutions.{Solves, Equal, Tidy, Within}
use Rattle.typing.specs.Solve.{Equations, lay}
use Rattle.typing.specs.Solved.{Holds}
use Rattle.typing.specs.Strings.{term_bytes}
use Rattle.typing.specs.Terms.{Term, fill}
use Rattle.typing.specs.declared.cell.Cell.TheVariants.{Free as free}
use Rattle.typing.specs.declared.head.Head.{Head}
use Rattle.inference.specs.Layouts.{Answer, Legible, shift}
use Rattle.inference.specs.Builds.{build}
use Rattle.inference.specs.Worklists.{pairs_of}
use Rattle.inference.specs.Slots.{Slot, entries_of, slots_of, most_entries}
use Rattle.inference.specs.Tables.{graph_of, most_cells}
use Rattle.inference.specs.declared.draft.Draft.{Draft}

pub record State : Type 0 where
  pub graph : Graph
  pub slots : List Slot
  pub pairs : Pairs

abbrev pub state_of : Draft → State
state_of d = record { graph = graph_of d.table.now; slots = slots_of (entries_of d.entries); pairs = pairs_of d.pairs }

-- so many free cells
abbrev pub unknowns : ℕ → State
unknowns n = record { graph = replicate n free; slots = []; pairs = [] }

abbrev pub with_graph : State → Graph → State
with_graph S g = record { graph = g; slots = S.slots; pairs = S.pairs }

abbrev pub build_at : Head → List ℕ → State → State × ℕ
build_at h xs S = let b = build h xs S.graph in (with_graph S b.0, b.1)

abbrev pub equate_at : ℕ → ℕ → State → State
equate_at a b S = record { graph = S.graph; slots = S.slots; pairs = (a, b) ∷ S.pairs }

-- A slot is put in its place; the cells of one name have to be equal.
abbrev pub put_slot : Slot → State → State
put_slot s S =
    record { graph = S.graph; slots = (insert s S.slots).0; pairs = (insert s S.slots).1 ++ S.pairs }

-- entries over the variables from `base` on
abbrev pub add_entries : ℕ → List (Name × Term) → State → State
add_entries base [] S = S
add_entries base (e ∷ es) S =
    let a = lay (shift base e.1) S.graph in
    put_slot (e.0, a.1) (add_entries base es (with_graph S a.0))

-- a form, and the cell of its type
abbrev pub add_form : ℕ → Form → State → State × ℕ
add_form base F S =
    let E = add_entries base F.entries S in
    let a = lay (shift base F.result) E.graph in
    (with_graph E a.0, a.1)

-- forms, each over variables of its own
abbrev pub add_forms : ℕ → List Form → State → State × List ℕ
add_forms base [] S = (S, [])
add_forms base (F ∷ Fs) S =
    let R = add_forms (base + width F) Fs S in
    let a = add_form base F R.0 in
    (a.0, a.1 ∷ R.1)

abbrev pub SlotsWithin : ℕ → List Slot → Type 0
SlotsWithin n [] = Unit {0}
SlotsWithin n (s ∷ ss) = (s.1 < n) × SlotsWithin n ss

-- The slots have the values of the entries, and the pairs are equal where the equations hold.
pub record Drafts (es : List (Name × Term)) (qs : Equations) (S : State) : Type 0 where
  pub tidy : Tidy (length S.graph) S.graph
  pub within : Within (length S.graph) S.pairs
  pub inside : SlotsWithin (length S.graph) S.slots
  pub slotted : (σ : ℕ → Term) → Solves σ S.graph → Slotted σ S.slots es
  pub equal : (σ : ℕ → Term) → Solves σ S.graph → Holds σ qs → Equal σ S.pairs
  pub holds : (σ : ℕ → Term) → Solves σ S.graph → Equal σ S.pairs → Holds σ qs

-- the cells have the values of the terms
abbrev pub CellsAre : (ℕ → Term) → List ℕ → List Term → Type 0
CellsAre σ [] [] = Unit {0}
CellsAre σ [] (t ∷ ts) = ⊥
CellsAre σ (c ∷ cs) [] = ⊥
CellsAre σ (c ∷ cs) (t ∷ ts) = (σ c ≡ fill σ t) × CellsAre σ cs ts

abbrev pub CellsWithin : ℕ → List ℕ → Type 0
CellsWithin n [] = Unit {0}
CellsWithin n (c ∷ cs) = (c < n) × CellsWithin n cs

-- there is room for a state
pub record Roomy (S : State) : Type 0 where
  pub cells : length S.graph ≤ most_cells
  pub entries : length S.slots ≤ most_entries
  pub together : length S.graph + length S.pairs ≤ most_cells

-- This state is left, with this answer; or there was no room for it.
abbrev pub Does : {A : Type 0} → State × A → State → Result A Fault → Type 0
Does T S' r = MatchResult r (λ a. (S' ≡ T.0) × (a ≡ T.1)) (λ fault. Roomy T.0 → ⊥)

-- If there is room for this state, it is left, with this answer.
abbrev pub DoesIf : {A : Type 0} → State × A → State → Result A Fault → Type 0
DoesIf T S' r = Roomy T.0 → MatchResult r (λ a. (S' ≡ T.0) × (a ≡ T.1)) (λ fault. ⊥)

-- Bytes that begin with a term are laid out as that term, if there is room.
abbrev pub LaysAt : ℕ → List ℕ → State → State → Answer → Type 0
LaysAt base bytes S S' r =
    (s : Sort) (t : Term) (rest : List ℕ) → Legible [] s t → bytes ≡ term_bytes t ++ rest → Roomy (with_graph S (lay (shift base t) S.graph).0) → MatchResult r (λ p. (S' ≡ with_graph S (lay (shift base t) S.graph).0) × (p.0 ≡ (lay (shift base t) S.graph).1) × (p.1.now ≡ rest)) (λ fault. ⊥)
