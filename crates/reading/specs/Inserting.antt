-- How a name takes its place among others, place by place. Assumes nothing.
use Rattle.std.specs.Prelude.{◌≡◌, ℕ, ◌+◌, ◌<◌, ◌≤◌, Bool, true, false, cond, List, [], ◌∷◌, ◌++◌, length, take, drop, Some, None, ◌≢◌, slice_index_or, slice_set, refl}
use Rattle.std.proofs.Common.{sym, ap, ap₂, ◌∙◌, append_assoc, arith}
use Rattle.std.proofs.lemmas.List.{append-nil, drop_more, drop_all, take_all, take_more, take_more_set, drop-set-lt, take-append-drop, take_at, length_push, length-append, length-drop}
use Rattle.std.proofs.lemmas.Bool.{lt-ltb, le-ltb, le-leb, lt-leb, eq-eqb, ne_eqb}
use Rattle.syntax.specs.declared.name.Name.{Name}
use Rattle.reading.specs.NameStrings.{key}
use Rattle.reading.specs.NamesRule.{insert, add, held}

module _ (n m : Name) (ms : List Name) where
  pub insert_same : key n ≡ key m → insert n (m ∷ ms) ≡ m ∷ ms
  insert_same e = rw (eq-eqb (key n) (key m) e)

  pub insert_below : (key n ≢ key m) → key n < key m → insert n (m ∷ ms) ≡ n ∷ insert m ms
  insert_below ne lt = rw (ne_eqb (key n) (key m) ne, lt-ltb (key n) (key m) lt)

  pub insert_above : (key n ≢ key m) → key m ≤ key n → insert n (m ∷ ms) ≡ m ∷ insert n ms
  insert_above ne le = rw (ne_eqb (key n) (key m) ne, le-ltb (key n) (key m) le)

module _ (xs : List Name) (i : ℕ) (d n : Name) (within : i < length xs) where
  at_drop : insert n (drop i xs) ≡ insert n (slice_index_or xs i d ∷ drop (i + 1) xs)
  at_drop = ap (insert n) (drop_more xs i d within)

  pub place_same : key n ≡ key (slice_index_or xs i d) → take i xs ++ insert n (drop i xs) ≡ xs
  place_same e =
      ap (λ z. take i xs ++ z) (at_drop ∙ insert_same n (slice_index_or xs i d) (drop (i + 1) xs) e ∙ sym (drop_more xs i d within)) ∙ take-append-drop i xs

  pub place_above : (key n ≢ key (slice_index_or xs i d)) → key (slice_index_or xs i d) ≤ key n → take (i + 1) xs ++ insert n (drop (i + 1) xs) ≡ take i xs ++ insert n (drop i xs)
  place_above ne le =
      ap (λ z. z ++ insert n (drop (i + 1) xs)) (take_more xs i d within)
      ∙ append_assoc (take i xs) (slice_index_or xs i d ∷ []) (insert n (drop (i + 1) xs))
      ∙ ap (λ z. take i xs ++ z) (sym (at_drop ∙ insert_above n (slice_index_or xs i d) (drop (i + 1) xs) ne le))

  pub place_below : (key n ≢ key (slice_index_or xs i d)) → key n < key (slice_index_or xs i d) → take (i + 1) (slice_set xs i n) ++ insert (slice_index_or xs i d) (drop (i + 1) (slice_set xs i n)) ≡ take i xs ++ insert n (drop i xs)
  place_below ne lt =
      ap₂ (λ z w. z ++ insert (slice_index_or xs i d) w) (take_more_set xs i n within) (drop-set-lt (i + 1) xs i n (omega arith))
      ∙ append_assoc (take i xs) (n ∷ []) (insert (slice_index_or xs i d) (drop (i + 1) xs))
      ∙ ap (λ z. take i xs ++ z) (sym (at_drop ∙ insert_below n (slice_index_or xs i d) (drop (i + 1) xs) ne lt))

pub place_end : (xs : List Name) (i : ℕ) (n : Name) → length xs ≤ i → take i xs ++ insert n (drop i xs) ≡ xs ++ n ∷ []
place_end xs i n past = ap₂ (λ z w. z ++ insert n w) (take_all i xs past) (drop_all i xs past)

-- a set before and after a name joins: the names that had a place, and the one that moved past them
module _ (x : Name) (names placed : List Name) (n k : ℕ) (same : k ≡ n) (long : length placed ≡ n) (room : length names ≡ 63) where
  held_fit : (ns : List Name) → length ns ≤ 63 → held ns ≡ Some ns
  held_fit ns few = rw (le-leb (length ns) 63 few)

  pub added_more : (many : Bool) (last : Name) → insert x (take k names) ≡ placed ++ last ∷ [] → n < 63 → cond many None (Some (take (n + 1) (slice_set (placed ++ drop k names) n last))) ≡ add x (cond many None (Some (take n names)))
  added_more true last is few = refl
  added_more false last is few =
      ap Some (take_more_set (placed ++ drop k names) n last (omega (arith, length-append placed (drop k names), length-drop k names)) ∙ ap (λ z. z ++ last ∷ []) (take_at placed (drop k names) n long))
      ∙ sym (held_fit (placed ++ last ∷ []) (omega (arith, length_push placed last)))
      ∙ ap held (sym (ap (λ j. insert x (take j names)) (sym same) ∙ is))

  pub added_past : (many : Bool) (last : Name) → insert x (take k names) ≡ placed ++ last ∷ [] → 63 ≤ n → None ≡ add x (cond many None (Some (take n names)))
  added_past true last is full = refl
  added_past false last is full =
      sym (ap held (ap (λ j. insert x (take j names)) (sym same) ∙ is) ∙ rw (lt-leb (length (placed ++ last ∷ [])) 63 (omega (arith, length_push placed last))))

  pub added_none : (many : Bool) → insert x (take k names) ≡ placed ++ [] → n ≤ 63 → cond many None (Some (take n (placed ++ drop k names))) ≡ add x (cond many None (Some (take n names)))
  added_none true is few = refl
  added_none false is few =
      ap Some (take_at placed (drop k names) n long) ∙ sym (held_fit placed (omega arith)) ∙ ap held (sym (ap (λ j. insert x (take j names)) (sym same) ∙ is ∙ append-nil placed))
