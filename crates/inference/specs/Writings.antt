-- A form as the code writes it: its bytes one after the other, with the free cells that have appeared.
-- Assumes nothing.
use Rattle.std.specs.Prelude.{◌≡◌, ℕ, ◌+◌, ◌<◌, ◌≤◌, List, [], ◌∷◌, ◌++◌, length, drop, Result, MatchResult}
use Rattle.arrayvec.specs.ArrayVec.{ArrayVec}
use Rattle.typing.specs.Cells.{Graph}
use Rattle.typing.specs.Forms.{Name, entry_variables}
use Rattle.typing.specs.Posing.{Slots, entries_at}
use Rattle.typing.specs.Solve.{distinct, position, renamed_entries}
use Rattle.typing.specs.Strings.{term_bytes, entries_bytes, longest}
use Rattle.typing.specs.Terms.{Term, var, fill, variables}
use Rattle.inference.specs.declared.entry.Entry.{Entry}
use Rattle.inference.specs.declared.script.Script.{Script}
use Rattle.inference.specs.declared.writer.TooLong.{TooLong}
use Rattle.inference.specs.Slots.{slots_of}

-- The bytes are added to a text; or there is no room for all of them.
abbrev pub Added : List ℕ → Script → Script → Result (Unit {0}) TooLong → Type 0
Added bytes s s' r =
    MatchResult r (λ done. (s'.text.items ≡ s.text.items ++ bytes) × (s'.seen.items ≡ s.seen.items)) (λ e. longest < length s.text.items + length bytes)

-- A variable's number is its place among those that have appeared.
abbrev pub place_in : List ℕ → ℕ → Term
place_in seen k = var (position k seen)

abbrev pub seen_after : List ℕ → Term → List ℕ
seen_after seen t = distinct seen (variables t)

-- the bytes of a term before which some variables have appeared
abbrev pub spelled : List ℕ → Term → List ℕ
spelled seen t = term_bytes (fill (place_in (seen_after seen t)) t)

-- The term is written behind a text; or there is no room for all of it.
abbrev pub Writes : Term → Script → Script → Result (Unit {0}) TooLong → Type 0
Writes t s s' r =
    MatchResult r (λ done. (s'.text.items ≡ s.text.items ++ spelled s.seen.items t) × (s'.seen.items ≡ seen_after s.seen.items t)) (λ e. longest < length s.text.items + length (spelled s.seen.items t))

-- the same of entries
abbrev pub seen_after_all : List ℕ → List (Name × Term) → List ℕ
seen_after_all seen es = distinct seen (entry_variables es)

abbrev pub spelled_all : List ℕ → List (Name × Term) → List ℕ
spelled_all seen es = entries_bytes (renamed_entries (place_in (seen_after_all seen es)) es)

abbrev pub WritesAll : List (Name × Term) → Script → Script → Result (Unit {0}) TooLong → Type 0
WritesAll es s s' r =
    MatchResult r (λ done. (s'.text.items ≡ s.text.items ++ spelled_all s.seen.items es) × (s'.seen.items ≡ seen_after_all s.seen.items es)) (λ e. longest < length s.text.items + length (spelled_all s.seen.items es))

abbrev pub slots_with : List Entry → ℕ → Slots
slots_with es result = record { entries = slots_of es; result = result }

-- The text is these bytes; or they are more than a form may have.
abbrev pub WroteForm : List ℕ → Result (ArrayVec ℕ) TooLong → Type 0
WroteForm bytes r = MatchResult r (λ t. (t.items ≡ bytes) × (length bytes ≤ longest)) (λ e. longest < length bytes)

-- every entry's cell is one of n
abbrev pub EntriesWithin : ℕ → List Entry → Type 0
EntriesWithin n [] = Unit {0}
EntriesWithin n (e ∷ es) = (e.cell < n) × EntriesWithin n es

-- Behind the script, the entries from place i on complete what is to be written.
pub record EntriesGo (g : Graph) (es : List Entry) (i : ℕ) (first s : Script) : Type 0 where
  pub bytes : s.text.items ++ spelled_all s.seen.items (entries_at g (slots_of (drop i es))) ≡ first.text.items ++ spelled_all first.seen.items (entries_at g (slots_of es))
  pub after : seen_after_all s.seen.items (entries_at g (slots_of (drop i es))) ≡ seen_after_all first.seen.items (entries_at g (slots_of es))
  pub within : EntriesWithin (length g) (drop i es)
