-- Entries that are written one after the other, and the form that they begin. Assumes nothing.
use Rattle.std.proofs.Common.{◌≡◌, ℕ, suc, ◌+◌, ◌<◌, List, [], ◌∷◌, ◌++◌, length, get_or, drop, sym, refl, ap, ◌∙◌, subst, ap₂, add-one, arith, length-append}
use Rattle.std.proofs.lemmas.List.{append_assoc, drop_more}
use Rattle.layout.specs.Groups.{group}
use Rattle.typing.specs.Cells.{Graph, readback}
use Rattle.typing.specs.Forms.{Name}
use Rattle.typing.specs.Posing.{entries_at, form_at}
use Rattle.typing.specs.Solve.{canonical}
use Rattle.typing.specs.Strings.{form_bytes, longest}
use Rattle.typing.specs.Terms.{Term}
use Rattle.inference.specs.Slots.{slots_of}
use Rattle.inference.specs.Writings.{seen_after, spelled, seen_after_all, spelled_all, slots_with, EntriesWithin, EntriesGo}
use Rattle.inference.specs.declared.entry.Entry.{Entry}
use Rattle.inference.specs.declared.script.Script.{Script}
use Rattle.inference.proofs.Spelling.{spelled_entry, seen_entry, spelled_form}

-- the entry at place i, which is the next one
module _ (g : Graph) (es : List Entry) (i : ℕ) (d : Entry) (first s : Script) (go : EntriesGo g es i first s) (lt : i < length es) where
  abbrev start : List ℕ
  start = first.text.items

  abbrev seen_first : List ℕ
  seen_first = first.seen.items

  abbrev text : List ℕ
  text = s.text.items

  abbrev seen : List ℕ
  seen = s.seen.items

  abbrev entry : Entry
  entry = get_or es i d

  abbrev term : Term
  term = readback (length g + 1) g entry.cell

  abbrev rest : List (Name × Term)
  rest = entries_at g (slots_of (drop (i + 1) es))

  here : entries_at g (slots_of (drop i es)) ≡ (entry.name.0, term) ∷ rest
  here = ap (λ xs. entries_at g (slots_of xs)) (drop_more es i d lt) ∙ ap (λ n. (entry.name.0, readback n g entry.cell) ∷ rest) (sym (add-one (length g)))

  -- what is left to write begins with this entry
  bytes_here : text ++ (entry.name.0 ++ (spelled seen term ++ spelled_all (seen_after seen term) rest)) ≡ start ++ spelled_all seen_first (entries_at g (slots_of es))
  bytes_here = sym (ap (λ z. text ++ z) (ap (spelled_all seen) here ∙ spelled_entry entry.name.0 term rest seen)) ∙ go.bytes

  long : length start + length (spelled_all seen_first (entries_at g (slots_of es))) ≡ length text + (length entry.name.0 + (length (spelled seen term) + length (spelled_all (seen_after seen term) rest)))
  long =
      let S = spelled seen term in
      let R = spelled_all (seen_after seen term) rest in
      omega (arith, ap length bytes_here, length-append start (spelled_all seen_first (entries_at g (slots_of es))), length-append text (entry.name.0 ++ (S ++ R)), length-append entry.name.0 (S ++ R), length-append S R)

  pub full_name : longest < length text + length entry.name.0 → longest < length start + length (spelled_all seen_first (entries_at g (slots_of es)))
  full_name full = omega (arith, full, long)

  module _ (named : Script) (is : named.text.items ≡ text ++ entry.name.0) (kept : named.seen.items ≡ seen) where
    pub full_cell : longest < length named.text.items + length (spelled named.seen.items term) → longest < length start + length (spelled_all seen_first (entries_at g (slots_of es)))
    full_cell full = omega (arith, full, long, ap length is, length-append text entry.name.0, ap (λ z. length (spelled z term)) kept)

    pub entries_again : (after : Script) → (after.text.items ≡ named.text.items ++ spelled named.seen.items term) × (after.seen.items ≡ seen_after named.seen.items term) → EntriesGo g es (i + 1) first after
    entries_again after wrote =
        let S = spelled seen term in
        let R = spelled_all (seen_after seen term) rest in
        let seen_then : after.seen.items ≡ seen_after seen term = wrote.1 ∙ ap (λ z. seen_after z term) kept in
        let written : after.text.items ≡ named.text.items ++ S = wrote.0 ∙ ap (λ z. named.text.items ++ spelled z term) kept in
        let joined : (named.text.items ++ S) ++ R ≡ text ++ (entry.name.0 ++ (S ++ R)) = append_assoc named.text.items S R ∙ ap (λ z. z ++ (S ++ R)) is ∙ append_assoc text entry.name.0 (S ++ R) in
        record {
          bytes = ap₂ (λ (a z : List ℕ). a ++ spelled_all z rest) written seen_then ∙ joined ∙ bytes_here;
          after = ap (λ z. seen_after_all z rest) seen_then ∙ sym (ap (seen_after_all seen) here ∙ seen_entry entry.name.0 term rest seen) ∙ go.after;
          within = (subst (EntriesWithin (length g)) (drop_more es i d lt) go.within).1;
        }

length_entries : (g : Graph) (es : List Entry) → length (entries_at g (slots_of es)) ≡ length es
length_entries g [] = refl
length_entries g (e ∷ es) = ap suc (length_entries g es)

-- A form is its number of entries, the entries, and the result, written behind no text.
module _ (g : Graph) (es : List Entry) (result : ℕ) (first-text first-seen counted : List ℕ) (blank-text : first-text ≡ []) (blank-seen : first-seen ≡ []) (is : counted ≡ first-text ++ group (length es)) where
  abbrev bytes : List ℕ
  bytes = form_bytes (canonical (form_at g (slots_with es result)))

  abbrev all : List (Name × Term)
  all = entries_at g (slots_of es)

  abbrev last : Term
  last = readback (length g + 1) g result

  bytes_are : bytes ≡ counted ++ (spelled_all first-seen all ++ spelled (seen_after_all first-seen all) last)
  bytes_are =
      spelled_form (form_at g (slots_with es result))
      ∙ ap₂ (λ (n d : ℕ). group n ++ (spelled_all [] all ++ spelled (seen_after_all [] all) (readback d g result))) (length_entries g es) (sym (add-one (length g)))
      ∙ ap₂ (λ (z s : List ℕ). z ++ (spelled_all s all ++ spelled (seen_after_all s all) last)) (sym (is ∙ ap (λ z. z ++ group (length es)) blank-text)) (sym blank-seen)

  long_form : length bytes ≡ length counted + (length (spelled_all first-seen all) + length (spelled (seen_after_all first-seen all) last))
  long_form =
      let E = spelled_all first-seen all in
      let R = spelled (seen_after_all first-seen all) last in
      omega (arith, ap length bytes_are, length-append counted (E ++ R), length-append E R)

  pub full_entries : longest < length counted + length (spelled_all first-seen all) → longest < length bytes
  full_entries full = omega (arith, full, long_form)

  module _ (listed seen : List ℕ) (wrote : (listed ≡ counted ++ spelled_all first-seen all) × (seen ≡ seen_after_all first-seen all)) where
    pub full_result : longest < length listed + length (spelled seen last) → longest < length bytes
    full_result full =
        omega (arith, full, long_form, ap length wrote.0, length-append counted (spelled_all first-seen all), ap (λ s. length (spelled s last)) wrote.1)

    pub form_written : (after seen' : List ℕ) → (after ≡ listed ++ spelled seen last) × (seen' ≡ seen_after seen last) → after ≡ bytes
    form_written after seen' ends =
        ends.0
        ∙ ap₂ (λ (z s : List ℕ). z ++ spelled s last) wrote.0 wrote.1
        ∙ append_assoc counted (spelled_all first-seen all) (spelled (seen_after_all first-seen all) last)
        ∙ sym bytes_are
