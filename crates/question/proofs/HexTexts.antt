-- Bytes to digits, and digits to bytes. Assumes nothing.
use Rattle.std.proofs.Common.{◌≡◌, ℕ, zero, suc, ◌+◌, ◌*◌, ◌<◌, ◌≤◌, Bool, true, ◌&&◌, ◌||◌, ltb, List, [], ◌∷◌, ◌++◌, length, get_or, take, drop, sym, refl, ap, ◌∙◌, subst, ap₂, append_assoc, add-one, arith}
use Rattle.std.proofs.lemmas.Bool.{and_parts, and_from, or_right, false≢true, le-ltb}
use Rattle.question.specs.Digits.{is_digit, is_hex, unhex, worth}

-- pairs of digits, or too little for a pair
abbrev pub is_pairs : List ℕ → Bool
is_pairs text = ltb (length text) 2 || is_hex text

-- a pair and what is behind it
pub record Pair (text pair rest : List ℕ) : Type 0 where
  pub high : is_digit (get_or pair 0 0) ≡ true
  pub low : is_digit (get_or pair 1 0) ≡ true
  pub more : is_pairs rest ≡ true
  pub value : unhex text ≡ (16 * worth (get_or pair 0 0) + worth (get_or pair 1 0)) ∷ unhex rest

pair_of : (text : List ℕ) → 2 ≤ length text → is_pairs text ≡ true → Pair text (take 2 text) (drop 2 text)
pair_of [] long h = absurd (omega arith)
pair_of (a ∷ []) long h = absurd (omega arith)
pair_of (a ∷ b ∷ text) long h =
    let whole = sym (ap (λ t. t || is_hex (a ∷ b ∷ text)) (le-ltb (length (a ∷ b ∷ text)) 2 long)) ∙ h in
    let p = and_parts (is_digit a && is_digit b) (is_hex text) whole in
    let q = and_parts (is_digit a) (is_digit b) p.0 in
    record { high = q.0; low = q.1; more = or_right (ltb (length text) 2) _ p.1; value = refl }

pub pair_from : (text pair rest : List ℕ) → pair ≡ take 2 text → rest ≡ drop 2 text → length rest + 2 ≡ length text → is_pairs text ≡ true → Pair text pair rest
pair_from text pair rest front back long h =
    subst (λ z. Pair text z rest) (sym front) (subst (λ z. Pair text (take 2 text) z) (sym back) (pair_of text (omega arith) h))

-- a byte behind those that are there
pub front_more : (front rest after whole : List ℕ) (v : ℕ) → unhex rest ≡ v ∷ unhex after → front ++ unhex rest ≡ whole → (front ++ v ∷ []) ++ unhex after ≡ whole
front_more front rest after whole v value is =
    append_assoc front (v ∷ []) (unhex after) ∙ ap (λ z. front ++ z) (sym value) ∙ is

-- twice a number, in steps of a pair
abbrev twice : ℕ → ℕ
twice zero = 0
twice (suc n) = suc (suc (twice n))

twice_is : (n : ℕ) → twice n ≡ 2 * n
twice_is zero = refl
twice_is (suc n) = omega (arith, twice_is n)

at_twice : (text : List ℕ) (i : ℕ) → is_hex text ≡ true → suc (twice i) < length text → (is_digit (get_or text (twice i) 0) ≡ true) × (is_digit (get_or text (suc (twice i)) 0) ≡ true) × (unhex (take (suc (suc (twice i))) text) ≡ unhex (take (twice i) text) ++ (16 * worth (get_or text (twice i) 0) + worth (get_or text (suc (twice i)) 0)) ∷ [])
at_twice [] i h within = absurd (omega arith)
at_twice (a ∷ []) i h within = absurd (false≢true h)
at_twice (a ∷ b ∷ text) zero h within =
    let p = and_parts (is_digit a && is_digit b) (is_hex text) h in
    let q = and_parts (is_digit a) (is_digit b) p.0 in
    (q.0, q.1, refl)
at_twice (a ∷ b ∷ text) (suc i) h within =
    let p = and_parts (is_digit a && is_digit b) (is_hex text) h in
    let r = at_twice text i p.1 (omega arith) in
    (r.0, r.1, ap (λ z. (16 * worth a + worth b) ∷ z) r.2)

-- a pair within digits, and what those up to its end stand for
pub record At (text : List ℕ) (k : ℕ) : Type 0 where
  pub high : is_digit (get_or text k 0) ≡ true
  pub low : is_digit (get_or text (k + 1) 0) ≡ true
  pub more : unhex (take (k + 2) text) ≡ unhex (take k text) ++ (16 * worth (get_or text k 0) + worth (get_or text (k + 1) 0)) ∷ []

pub pair_at : (text : List ℕ) (i : ℕ) → is_hex text ≡ true → 2 * i + 1 < length text → At text (2 * i)
pair_at text i h within =
    let r = at_twice text i h (omega (arith, twice_is i)) in
    let two : twice i + 2 ≡ suc (suc (twice i)) = omega arith in
    subst (At text) (twice_is i)
    (record {
      high = r.0;
      low = ap (λ k. is_digit (get_or text k 0)) (add-one (twice i)) ∙ r.1;
      more =
          ap (λ j. unhex (take j text)) two ∙ r.2
          ∙ ap (λ j. unhex (take (twice i) text) ++ (16 * worth (get_or text (twice i) 0) + worth (get_or text j 0)) ∷ []) (sym (add-one (twice i)));
    })

-- digits that are cut behind some pairs
cut_at : (n : ℕ) (text : List ℕ) → is_hex text ≡ true → twice n ≤ length text → (is_hex (take (twice n) text) ≡ true) × (is_hex (drop (twice n) text) ≡ true) × (unhex text ≡ unhex (take (twice n) text) ++ unhex (drop (twice n) text))
cut_at zero text h long = (refl, h, refl)
cut_at (suc n) [] h long = absurd (omega arith)
cut_at (suc n) (a ∷ []) h long = absurd (false≢true h)
cut_at (suc n) (a ∷ b ∷ text) h long =
    let p = and_parts (is_digit a && is_digit b) (is_hex text) h in
    let r = cut_at n text p.1 (omega arith) in
    (and_from (is_digit a && is_digit b) (is_hex (take (twice n) text)) p.0 r.0, r.1, ap (λ z. (16 * worth a + worth b) ∷ z) r.2)

-- a block and what is behind it
pub block_from : (text block rest : List ℕ) → block ≡ take 32 text → rest ≡ drop 32 text → length rest + 32 ≡ length text → is_pairs text ≡ true → (is_hex block ≡ true) × (is_pairs rest ≡ true) × (unhex text ≡ unhex block ++ unhex rest)
block_from text block rest front back long h =
    let whole = sym (ap (λ t. t || is_hex text) (le-ltb (length text) 2 (omega arith))) ∙ h in
    let r = cut_at 16 text whole (omega arith) in
    (ap is_hex front ∙ r.0, or_right (ltb (length rest) 2) _ (ap is_hex back ∙ r.1), r.2 ∙ ap₂ (λ x y. unhex x ++ unhex y) (sym front) (sym back))
