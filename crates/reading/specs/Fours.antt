-- Names off bytes, four to a name, and onto them. Assumes nothing.
use Rattle.std.specs.Prelude.{◌≡◌, ℕ, ◌+◌, ◌*◌, ◌<◌, ◌≤◌, Bool, true, false, cond, List, [], ◌∷◌, ◌++◌, length, get_or, take, drop, Some, None, slice_index, slice_index_or, slice_set, refl}
use Rattle.std.proofs.Common.{sym, ap, ap₂, ◌∙◌, append_assoc, arith}
use Rattle.std.specs.List.{flat_map}
use Rattle.std.proofs.lemmas.List.{drop_more, drop_all, take_all, take_at, drop_at, take_more, take_more_set, length-set, length-append, append-nil, flat_map_more, drop-drop, take-append-drop, length-take, drop-set-lt}
use Rattle.std.proofs.lemmas.Bool.{lt-ltb}
use Rattle.layout.specs.Groups.{group}
use Rattle.syntax.specs.Names.{is_name}
use Rattle.syntax.specs.declared.name.Name.{Name}
use Rattle.reading.specs.NameStrings.{key, fours, rising, listing, spelled}

pub fours_full : (h rest : List ℕ) → length h ≡ 4 → fours (h ++ rest) ≡ record { 0 = h } ∷ fours rest
fours_full (a ∷ b ∷ c ∷ d ∷ []) rest e = refl
fours_full (a ∷ b ∷ c ∷ d ∷ x ∷ xs) rest e = absurd (omega arith)
fours_full (a ∷ b ∷ c ∷ []) rest e = absurd (omega arith)
fours_full (a ∷ b ∷ []) rest e = absurd (omega arith)
fours_full (a ∷ []) rest e = absurd (omega arith)
fours_full [] rest e = absurd (omega arith)

pub fours_short : (h : List ℕ) → length h < 4 → fours h ≡ []
fours_short (a ∷ b ∷ c ∷ d ∷ xs) e = absurd (omega arith)
fours_short (a ∷ b ∷ c ∷ []) e = refl
fours_short (a ∷ b ∷ []) e = refl
fours_short (a ∷ []) e = refl
fours_short [] e = refl

-- bytes that wait for a name to be whole, before those that are still to come
module _ (waits bytes : List ℕ) (f i : ℕ) (four : length waits ≡ 4) (open' : f < 4) (within : i < length bytes) where
  abbrev pub next : List ℕ
  next = slice_set waits f (slice_index bytes i)

  pub wait_goes : take (f + 1) next ++ drop (i + 1) bytes ≡ take f waits ++ drop i bytes
  wait_goes =
      ap (λ z. z ++ drop (i + 1) bytes) (take_more_set waits f (slice_index bytes i) (omega arith))
      ∙ append_assoc (take f waits) (slice_index bytes i ∷ []) (drop (i + 1) bytes)
      ∙ ap (λ z. take f waits ++ z) (sym (drop_more bytes i 0 within))

  pub wait_ends : f + 1 ≡ 4 → fours (take f waits ++ drop i bytes) ≡ record { 0 = next } ∷ fours (drop (i + 1) bytes)
  wait_ends last =
      let long : length next ≡ 4 = length-set waits f (slice_index bytes i) ∙ four in
      ap fours (sym wait_goes ∙ ap (λ z. z ++ drop (i + 1) bytes) (take_all (f + 1) next (omega arith))) ∙ fours_full next (drop (i + 1) bytes) long

pub wait_none : (waits bytes : List ℕ) (f i : ℕ) → length waits ≡ 4 → f < 4 → length bytes ≤ i → fours (take f waits ++ drop i bytes) ≡ []
wait_none waits bytes f i four few past =
    ap (λ z. fours (take f waits ++ z)) (drop_all i bytes past) ∙ ap fours (append-nil (take f waits)) ∙ fours_short (take f waits) (omega (arith, length-take f waits))

-- names are written one after another behind what is there
module _ (front base out out' w : List ℕ) (k : ℕ) (long : length front ≡ k) where
  pub put_more : out ≡ front ++ drop k base → out' ≡ take k out ++ (w ++ drop (k + 4) out) → out' ≡ (front ++ w) ++ drop (k + 4) base
  put_more is put =
      let behind : drop (k + 4) out ≡ drop (k + 4) base = sym (drop-drop 4 k out) ∙ ap (drop 4) (ap (drop k) is ∙ drop_at front (drop k base) k long) ∙ drop-drop 4 k base in
      put
      ∙ ap₂ (λ z v. z ++ (w ++ v)) (ap (take k) is ∙ take_at front (drop k base) k long) behind
      ∙ sym (append_assoc front w (drop (k + 4) base))

abbrev bytes_of : List Name → List ℕ
bytes_of ns = flat_map (λ n. n.0) ns

module _ (names : List Name) (i : ℕ) (d : Name) (within : i < length names) where
  pub bytes_more : bytes_of (take (i + 1) names) ≡ bytes_of (take i names) ++ (get_or names i d).0
  bytes_more = ap bytes_of (take_more names i d within) ∙ sym (flat_map_more (λ n. n.0) [] (take i names) (slice_index_or names i d))

module _ (names : List Name) (n i : ℕ) (d : Name) (base out out' : List ℕ) (within : i < length names) (long : length (bytes_of (take i names)) ≡ 4 * i) (four : length (get_or names i d).0 ≡ 4) where
  pub write_long : length (bytes_of (take (i + 1) names)) ≡ 4 * (i + 1)
  write_long = omega (arith, ap length (bytes_more names i d within) ∙ length-append (bytes_of (take i names)) (get_or names i d).0)

  pub write_more : out ≡ (3 ∷ (n ∷ bytes_of (take i names))) ++ drop (2 + 4 * i) base → out' ≡ take (2 + 4 * i) out ++ ((get_or names i d).0 ++ drop (2 + 4 * i + 4) out) → out' ≡ (3 ∷ (n ∷ bytes_of (take (i + 1) names))) ++ drop (2 + 4 * (i + 1)) base
  write_more is put =
      let on : 2 + 4 * i + 4 ≡ 2 + 4 * (i + 1) = omega arith in
      put_more (3 ∷ (n ∷ bytes_of (take i names))) base out out' (get_or names i d).0 (2 + 4 * i) (omega arith) is put
      ∙ ap₂ (λ z k. (3 ∷ (n ∷ z)) ++ drop k base) (sym (bytes_more names i d within)) on

pub write_start : (out : List ℕ) (n : ℕ) → 2 ≤ length out → slice_set (slice_set out 0 3) 1 n ≡ 3 ∷ (n ∷ drop 2 (slice_set (slice_set out 0 3) 1 n))
write_start [] n long = absurd (omega arith)
write_start (a ∷ []) n long = absurd (omega arith)
write_start (a ∷ b ∷ out) n long = refl

module _ (ns : List Name) (n : ℕ) (long : length ns ≡ n) (few : n ≤ 63) where
  pub listing_is : listing ns ≡ 3 ∷ (n ∷ bytes_of ns)
  listing_is =
      let one : group n ≡ n ∷ [] = rw (lt-ltb n 128 (omega arith)) in
      ap (λ k. 3 ∷ (group k ++ bytes_of ns)) long ∙ ap (λ z. 3 ∷ (z ++ bytes_of ns)) one

-- the whole string is written
module _ (xs ns : List Name) (i : ℕ) (many : Bool) (few' : many ≡ false) (out before : List ℕ) (same : ns ≡ xs) (most : length xs ≤ 63) (past : i ≡ length xs) (long : length (bytes_of (take i xs)) ≡ 4 * i) where
  all_of : take i xs ≡ xs
  all_of = take_all i xs (omega arith)

  text_is : spelled (cond many None (Some ns)) ≡ 3 ∷ (length xs ∷ bytes_of xs)
  text_is = ap₂ (λ b z. spelled (cond b None (Some z))) few' same ∙ listing_is xs (length xs) refl most

  pub end_long : 2 + 4 * length xs ≡ length (spelled (cond many None (Some ns)))
  end_long = omega (arith, ap length text_is, ap (λ z. length (bytes_of z)) all_of)

  pub end_wrote : out ≡ (3 ∷ (length xs ∷ bytes_of (take i xs))) ++ drop (2 + 4 * i) (slice_set (slice_set before 0 3) 1 (length xs)) → out ≡ spelled (cond many None (Some ns)) ++ drop (2 + 4 * length xs) before
  end_wrote is =
      is ∙ ap₂ (λ z k. (3 ∷ (length xs ∷ bytes_of z)) ++ drop (2 + 4 * k) (slice_set (slice_set before 0 3) 1 (length xs))) all_of past
      ∙ ap₂ (λ z v. z ++ v) (sym text_is) (drop-set-lt (2 + 4 * length xs) (slice_set before 0 3) 1 (length xs) (omega arith) ∙ drop-set-lt (2 + 4 * length xs) before 0 3 (omega arith))

-- a name and those behind it
module _ (last : ℕ) (bytes four rest : List ℕ) (front : four ≡ take 4 bytes) (back : rest ≡ drop 4 bytes) (long : length rest + 4 ≡ length bytes) where
  four_names : fours bytes ≡ record { 0 = four } ∷ fours rest
  four_names =
      ap fours (sym (take-append-drop 4 bytes) ∙ ap₂ (λ z w. z ++ w) (sym front) (sym back))
      ∙ fours_full four rest (ap length front ∙ length-take 4 bytes ∙ omega arith)

  pub rises_more : is_name four ≡ true → last < key (record { 0 = four }) → rising (key (record { 0 = four })) (fours rest) ≡ rising last (fours bytes)
  rises_more valid above = sym (ap (rising last) four_names ∙ rw (valid, lt-ltb last (key (record { 0 = four })) above))
