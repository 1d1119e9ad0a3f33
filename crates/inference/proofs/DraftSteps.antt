-- The steps by which a draft grows, and that they never take cells, entries or pairs away. Assumes nothing.
use Rattle.std.proofs.Common.{ℕ, suc, ◌≤◌, Bool, true, false, List, [], ◌∷◌, length, Ok, Err, ap, arith, length-append}
use Rattle.typing.specs.Cells.{Graph}
use Rattle.typing.specs.Forms.{Name, same}
use Rattle.typing.specs.Solve.{lay}
use Rattle.typing.specs.Strings.{before}
use Rattle.typing.specs.Terms.{Term}
use Rattle.typing.specs.declared.head.Head.{Head}
use Rattle.typing.specs.Constraints.{insert}
use Rattle.inference.specs.Drafts.{State, with_graph, build_at, equate_at, put_slot, add_entries, Roomy, LaysAt, SlotsWithin}
use Rattle.inference.specs.Layouts.{Answer, LaysTerm, shift}
use Rattle.inference.specs.Slots.{Slot, slots_of}
use Rattle.inference.specs.Writings.{EntriesWithin}
use Rattle.inference.specs.declared.entry.Entry.{Entry}
use Rattle.inference.proofs.Building.{build_longer}
use Rattle.inference.proofs.Drafting.{placed}
use Rattle.inference.proofs.LayingOut.{lay_longer}

pub lays_at : (base : ℕ) (bytes : List ℕ) (S : State) (g' : Graph) (r : Answer) → LaysTerm base bytes S.graph g' r → LaysAt base bytes S (with_graph S g') r
lays_at base bytes S g' (Ok p) lays s t rest legible is roomy =
    let o = lays s t rest legible is roomy.cells in
    (ap (with_graph S) o.0, o.1, o.2)
lays_at base bytes S g' (Err fault) lays s t rest legible is roomy = lays s t rest legible is roomy.cells

-- one state has no more of anything than another
pub record Grows (S T : State) : Type 0 where
  pub cells : length S.graph ≤ length T.graph
  pub slots : length S.slots ≤ length T.slots
  pub pairs : length S.pairs ≤ length T.pairs

pub roomy_before : (S T : State) → Grows S T → Roomy T → Roomy S
roomy_before S T g roomy =
    record { cells = omega (arith, g.cells, roomy.cells); entries = omega (arith, g.slots, roomy.entries); together = omega (arith, g.cells, g.pairs, roomy.together) }

pub grows_none : (S : State) → Grows S S
grows_none S = record { cells = omega arith; slots = omega arith; pairs = omega arith }

pub grows_more : (S T U : State) → Grows S T → Grows T U → Grows S U
grows_more S T U a b = record { cells = omega (arith, a.cells, b.cells); slots = omega (arith, a.slots, b.slots); pairs = omega (arith, a.pairs, b.pairs) }

pub insert_longer : (s : Slot) (ss : List Slot) → length ss ≤ length (insert s ss).0
insert_longer s [] = omega arith
insert_longer s (z ∷ ss) = by_tests (same s.0 z.0) (before s.0 z.0) (insert_longer s ss)
  where
    by_tests : (a b : Bool) → length ss ≤ length (insert s ss).0 → suc (length ss) ≤ length (placed a b s z ss (insert s ss)).0
    by_tests true b le = omega arith
    by_tests false true le = omega arith
    by_tests false false le = omega (arith, le)

pub grows_put : (s : Slot) (S : State) → Grows S (put_slot s S)
grows_put s S =
    record { cells = omega arith; slots = insert_longer s S.slots; pairs = omega (arith, length-append (insert s S.slots).1 S.pairs) }

pub grows_lay : (t : Term) (S : State) → Grows S (with_graph S (lay t S.graph).0)
grows_lay t S = record { cells = lay_longer t S.graph; slots = omega arith; pairs = omega arith }

pub grows_entries : (base : ℕ) (es : List (Name × Term)) (S : State) → Grows S (add_entries base es S)
grows_entries base [] S = grows_none S
grows_entries base (e ∷ es) S =
    let a = lay (shift base e.1) S.graph in
    let R = add_entries base es (with_graph S a.0) in
    grows_more S (with_graph S a.0) (put_slot (e.0, a.1) R) (grows_lay (shift base e.1) S) (grows_more (with_graph S a.0) R (put_slot (e.0, a.1) R) (grows_entries base es (with_graph S a.0)) (grows_put (e.0, a.1) R))

pub grows_build : (h : Head) (xs : List ℕ) (S : State) → Grows S (build_at h xs S).0
grows_build h xs S = record { cells = omega (arith, build_longer h xs S.graph); slots = omega arith; pairs = omega arith }

pub grows_equate : (a b : ℕ) (S : State) → Grows S (equate_at a b S)
grows_equate a b S = record { cells = omega arith; slots = omega arith; pairs = omega arith }

-- cells inside, of slots and of entries
pub entries_within : (n : ℕ) (es : List Entry) → SlotsWithin n (slots_of es) → EntriesWithin n es
entries_within n [] w = tt
entries_within n (e ∷ es) w = (w.0, entries_within n es w.1)
