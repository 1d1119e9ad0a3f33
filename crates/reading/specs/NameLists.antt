-- Rising names, and the strings that list them. Assumes nothing.
use Rattle.std.specs.Prelude.{◌≡◌, ℕ, zero, suc, ◌*◌, ◌<◌, ◌≤◌, true, false, cond, ◌&&◌, ◌⊎◌, List, [], ◌∷◌, length, Some, None, Option, ◌==◌, nat_le, nat_lt, refl}
use Rattle.std.proofs.Common.{sym, ap, ap₂, subst, ◌∙◌, inl, inr, arith}
use Rattle.std.specs.List.{flat_map, AllByRecursion}
use Rattle.std.specs.Char.{is_ascii_lowercase}
use Rattle.std.proofs.lemmas.List.{length-append}
use Rattle.std.proofs.lemmas.Bool.{and_parts, and_from, lt-ltb, ltb-true, le-leb, leb-true, eq-eqb, eqb-true, cases_order, cases_Bool, false≢true, cond_both}
use Rattle.syntax.proofs.Letters.{letters_step, named}
use Rattle.syntax.specs.Names.{is_name, letters}
use Rattle.syntax.specs.declared.name.Name.{Name}
use Rattle.reading.specs.NameStrings.{key, rising, listing, many, spelled, fours, lists, is_empty, allowed}
use Rattle.reading.specs.NamesRule.{insert, add, is_bound, join, merge}
use Rattle.reading.specs.Fours.{fours_full, listing_is}
use Rattle.reading.specs.Inserting.{insert_same, insert_below, insert_above}

abbrev pub Valid : Name → Type 0
Valid n = is_name n.0 ≡ true

abbrev pub bytes_of : List Name → List ℕ
bytes_of ns = flat_map (λ n. n.0) ns

first_letter : (bs : List ℕ) → 0 < length (letters bs) → (b : ℕ) (rest : List ℕ) → bs ≡ b ∷ rest → is_ascii_lowercase b ≡ true
first_letter bs some b rest is = by_test (cases_Bool (is_ascii_lowercase b))
  where
    by_test : (is_ascii_lowercase b ≡ true) ⊎ (is_ascii_lowercase b ≡ false) → is_ascii_lowercase b ≡ true
    by_test (inl e) = e
    by_test (inr e) = absurd (omega (arith, ap (λ z. length (letters z)) is ∙ ap length (letters_step b rest) ∙ ap (λ t. length (cond t (b ∷ letters rest) [])) e))

key_above : (bs : List ℕ) → 0 < length (letters bs) → 0 < key (record { 0 = bs })
key_above [] some = absurd (omega arith)
key_above (b ∷ bs) some =
    let low = leb-true 97 b (and_parts (nat_le 97 b) (nat_le b 122) (first_letter (b ∷ bs) some b bs refl)).0 in
    omega (arith, low)

-- a name comes after nothing
pub valid_key : (n : Name) → Valid n → 0 < key n
valid_key n valid = key_above n.0 (named n.0 valid).some

module _ (last : ℕ) (n : Name) (ns : List Name) where
  pub rising_parts : rising last (n ∷ ns) ≡ true → Valid n × (last < key n) × (rising (key n) ns ≡ true)
  rising_parts h =
      let p = and_parts (is_name n.0 && nat_lt last (key n)) (rising (key n) ns) h in
      let q = and_parts (is_name n.0) (nat_lt last (key n)) p.0 in
      (q.0, ltb-true last (key n) q.1, p.1)

  pub rising_cons : Valid n → last < key n → rising (key n) ns ≡ true → rising last (n ∷ ns) ≡ true
  rising_cons valid above rest = and_from _ _ (and_from _ _ valid (lt-ltb last (key n) above)) rest

pub rising_lower : (low last : ℕ) (ns : List Name) → low ≤ last → rising last ns ≡ true → rising low ns ≡ true
rising_lower low last [] le h = refl
rising_lower low last (n ∷ ns) le h = let p = rising_parts last n ns h in rising_cons low n ns p.0 (omega (arith, p.1)) p.2

pub rising_valid : (last : ℕ) (ns : List Name) → rising last ns ≡ true → AllByRecursion Valid ns
rising_valid last [] h = tt
rising_valid last (n ∷ ns) h = let p = rising_parts last n ns h in (p.0, rising_valid (key n) ns p.2)

pub insert_rising : (last : ℕ) (n : Name) (ns : List Name) → Valid n → last < key n → rising last ns ≡ true → rising last (insert n ns) ≡ true
insert_rising last n [] valid above h = rising_cons last n [] valid above refl
insert_rising last n (m ∷ ms) valid above h =
    let p = rising_parts last m ms h in
    elim (cases_order (key n) (key m)) [
      | inl e ↦ ap (rising last) (insert_same n m ms e) ∙ h
      | inr x ↦ elim x [
        | inl lt ↦
            ap (rising last) (insert_below n m ms (λ e. omega arith) lt)
            ∙ rising_cons last n (insert m ms) valid above (insert_rising (key n) m ms p.0 lt (rising_lower (key n) (key m) ms (omega arith) p.2))
        | inr gt ↦
            ap (rising last) (insert_above n m ms (λ e. omega arith) (omega arith))
            ∙ rising_cons last m (insert n ms) p.0 p.1 (insert_rising (key m) n ms valid gt p.2)
      ]
    ]

-- names that can be listed, or too many
abbrev pub Good : Option (List Name) → Type 0
Good None = Unit {0}
Good (Some ns) = (rising 0 ns ≡ true) × (length ns ≤ 63)

pub add_good : (n : Name) (set : Option (List Name)) → Valid n → Good set → Good (add n set)
add_good n None valid good = tt
add_good n (Some ns) valid good =
    cond_both (nat_le (length (insert n ns)) 63) (Some (insert n ns)) None Good
    (λ few. (insert_rising 0 n ns valid (valid_key n valid) good.0, leb-true (length (insert n ns)) 63 few))
    (λ _. tt)

pub join_good : (bound : Option Name) (ns : List Name) (set : Option (List Name)) → AllByRecursion Valid ns → Good set → Good (join bound ns set)
join_good bound [] set valid good = good
join_good bound (n ∷ ns) set valid good =
    join_good bound ns (cond (is_bound bound n) set (add n set)) valid.1
    (cond_both (is_bound bound n) set (add n set) Good (λ _. good) (λ _. add_good n set valid.0 good))

-- names to bytes and back
pub fours_bytes : (ns : List Name) → AllByRecursion Valid ns → fours (bytes_of ns) ≡ ns
fours_bytes [] valid = refl
fours_bytes (n ∷ ns) valid = fours_full n.0 (bytes_of ns) (named n.0 valid.0).four ∙ ap (λ z. n ∷ z) (fours_bytes ns valid.1)

pub length_bytes : (ns : List Name) → AllByRecursion Valid ns → length (bytes_of ns) ≡ 4 * length ns
length_bytes [] valid = refl
length_bytes (n ∷ ns) valid = omega (arith, length-append n.0 (bytes_of ns), (named n.0 valid.0).four, length_bytes ns valid.1)

-- bytes to names and back
pub bytes_fours : (n : ℕ) (bytes : List ℕ) → length bytes ≡ 4 * n → (bytes_of (fours bytes) ≡ bytes) × (length (fours bytes) ≡ n)
bytes_fours zero [] long = (refl, refl)
bytes_fours zero (a ∷ bytes) long = absurd (omega arith)
bytes_fours (suc n) [] long = absurd (omega arith)
bytes_fours (suc n) (a ∷ []) long = absurd (omega arith)
bytes_fours (suc n) (a ∷ b ∷ []) long = absurd (omega arith)
bytes_fours (suc n) (a ∷ b ∷ c ∷ []) long = absurd (omega arith)
bytes_fours (suc n) (a ∷ b ∷ c ∷ d ∷ bytes) long =
    let rest = bytes_fours n bytes (omega arith) in
    (ap (λ z. a ∷ b ∷ c ∷ d ∷ z) rest.0, ap suc rest.1)

-- what a list of names is written as is lawful, and lists them
pub listing_allowed : (ns : List Name) → Good (Some ns) → allowed (listing ns) ≡ true
listing_allowed ns good =
    let valid = rising_valid 0 ns good.0 in
    ap allowed (listing_is ns (length ns) refl good.1)
    ∙ and_from _ _ (and_from _ _ (le-leb (length ns) 63 good.1) (eq-eqb _ _ (length_bytes ns valid))) (ap (rising 0) (fours_bytes ns valid) ∙ good.0)

pub spelled_allowed : (set : Option (List Name)) → Good set → allowed (spelled set) ≡ true
spelled_allowed None good = refl
spelled_allowed (Some ns) good = listing_allowed ns good

pub merge_listing : (bound : Option Name) (ns : List Name) (set : Option (List Name)) → Good (Some ns) → merge bound (listing ns) set ≡ join bound ns set
merge_listing bound ns set good =
    ap (λ z. merge bound z set) (listing_is ns (length ns) refl good.1) ∙ ap (λ z. join bound z set) (fours_bytes ns (rising_valid 0 ns good.0))

-- every lawful string is one of these
pub record Listed (text : List ℕ) : Type 0 where
  pub names : List Name
  pub good : Good (Some names)
  pub is : text ≡ listing names

listed : (bytes : List ℕ) → lists bytes ≡ true → Listed (3 ∷ bytes)
listed [] h = absurd (false≢true h)
listed (n ∷ bytes) h =
    let p = and_parts (nat_le n 63 && length bytes == 4 * n) (rising 0 (fours bytes)) h in
    let q = and_parts (nat_le n 63) (length bytes == 4 * n) p.0 in
    let few = leb-true n 63 q.0 in
    let back = bytes_fours n bytes (eqb-true (length bytes) (4 * n) q.1) in
    record {
      names = fours bytes;
      good = (p.1, omega (arith, back.1));
      is = sym (listing_is (fours bytes) n back.1 few ∙ ap (λ z. 3 ∷ (n ∷ z)) back.0);
    }

pub allowed_cases : (text : List ℕ) → allowed text ≡ true → (text ≡ many) ⊎ Listed text
allowed_cases [] h = absurd (false≢true h)
allowed_cases (first ∷ bytes) h = by_first (cases_Bool (first == 4))
  where
    alone : (bs : List ℕ) → is_empty bs ≡ true → bs ≡ []
    alone [] e = refl
    alone (b ∷ bs) e = absurd (false≢true e)

    by_first : ((first == 4) ≡ true) ⊎ ((first == 4) ≡ false) → ((first ∷ bytes) ≡ many) ⊎ Listed (first ∷ bytes)
    by_first (inl e) =
        inl (ap₂ (λ x xs. x ∷ xs) (eqb-true first 4 e) (alone bytes (sym (ap (λ t. cond t (is_empty bytes) (first == 3 && lists bytes)) e) ∙ h)))
    by_first (inr e) =
        let p = and_parts (first == 3) (lists bytes) (sym (ap (λ t. cond t (is_empty bytes) (first == 3 && lists bytes)) e) ∙ h) in
        inr (subst (λ x. Listed (x ∷ bytes)) (sym (eqb-true first 3 p.0)) (listed bytes p.1))

pub allowed_within : (text : List ℕ) → allowed text ≡ true → length text ≤ 254
allowed_within text h = by_shape (allowed_cases text h)
  where
    by_shape : (text ≡ many) ⊎ Listed text → length text ≤ 254
    by_shape (inl e) = omega (arith, ap length e)
    by_shape (inr l) =
        omega (arith, ap length (l.is ∙ listing_is l.names (length l.names) refl l.good.1), length_bytes l.names (rising_valid 0 l.names l.good.0), l.good.1)

pub merge_good : (bound : Option Name) (text : List ℕ) (set : Option (List Name)) → allowed text ≡ true → Good set → Good (merge bound text set)
merge_good bound text set h good = by_shape (allowed_cases text h)
  where
    by_shape : (text ≡ many) ⊎ Listed text → Good (merge bound text set)
    by_shape (inl e) = subst (λ z. Good (merge bound z set)) (sym e) tt
    by_shape (inr l) =
        subst (λ z. Good (merge bound z set)) (sym l.is)
        (subst Good (sym (merge_listing bound l.names set l.good)) (join_good bound l.names set (rising_valid 0 l.names l.good.0) good))
