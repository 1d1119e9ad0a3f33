-- The entries of a form over cells. Assumes nothing.
use Rattle.std.specs.Prelude.{◌≡◌, ℕ, ◌<◌, ◌≤◌, List, [], ◌∷◌, ◌++◌, length, take, drop, Some, None, Option, Result, MatchResult, slice_index_or}
use Rattle.std.specs.List.{insert as inserted}
use Rattle.syntax.specs.declared.fault.Fault.{Fault}
use Rattle.typing.specs.Forms.{Name}
use Rattle.typing.specs.Constraints.{insert}
use Rattle.inference.specs.declared.entries.Entries.{Entries}
use Rattle.inference.specs.declared.entry.Entry.{Entry}

-- a name with the cell of its type
abbrev pub Slot : Type 0
Slot = Name × ℕ

abbrev pub slot_of : Entry → Slot
slot_of e = (e.name.0, e.cell)

abbrev pub slots_of : List Entry → List Slot
slots_of [] = []
slots_of (e ∷ es) = slot_of e ∷ slots_of es

abbrev pub entries_of : Entries → List Entry
entries_of l = l.entries.items

-- how many entries a table can hold
abbrev pub most_entries : ℕ
most_entries = 144

-- the pairs of cells that have to be equal where this cell is listed already for the name
abbrev pub pairs_with : ℕ → Option ℕ → List (ℕ × ℕ)
pairs_with cell None = []
pairs_with cell (Some listed) = (listed, cell) ∷ []

-- The slot is put in its place, or there was no room for it.
abbrev pub Inserted : Slot → List Slot → List Slot → Result (Option ℕ) Fault → Type 0
Inserted s ss ss' r =
    MatchResult r (λ listed. (ss' ≡ (insert s ss).0) × (pairs_with s.1 listed ≡ (insert s ss).1)) (λ fault. most_entries < length (insert s ss).0)

-- The slot is put in its place no sooner than behind n others.
abbrev pub Goes : Slot → List Slot → ℕ → Type 0
Goes s ss n =
    ((insert s ss).0 ≡ take n ss ++ (insert s (drop n ss)).0) × ((insert s ss).1 ≡ (insert s (drop n ss)).1)

-- what is read past the end
abbrev pub blank : Entry
blank = record { name = record { 0 = [] }; cell = 0 }

-- where an entry's name is listed, or else where the entry belongs
abbrev pub Finds : Entry → List Entry → Result ℕ ℕ → Type 0
Finds e es r =
    MatchResult r (λ i. (i < length es) × (insert (slot_of e) (slots_of es) ≡ (slots_of es, ((slice_index_or es i blank).cell, e.cell) ∷ []))) (λ i. (i ≤ length es) × (insert (slot_of e) (slots_of es) ≡ (slots_of (inserted es i e), [])))
