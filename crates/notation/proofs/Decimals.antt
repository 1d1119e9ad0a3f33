-- Decimals, from their last digit. Assumes nothing.
use Rattle.std.proofs.Common.{◌≡◌, ℕ, ◌+◌, ◌-◌, ◌*◌, ◌/◌, ◌%◌, ◌<◌, ◌≤◌, ◌⊎◌, List, [], ◌∷◌, ◌++◌, length, decimal, sym, ap, ◌∙◌, inl, inr, arith}
use Rattle.std.proofs.lemmas.Fmt.{decimal_digit, decimal_step, decimal_nonempty, length-decimal-le, decimal_injective}
use Rattle.std.proofs.lemmas.List.{same_from_push, nil_from_length}
use Rattle.std.proofs.lemmas.Bool.{cases_lt}

-- no number has this decimal
abbrev pub None : List ℕ → Type 0
None text = (n : ℕ) → n ≤ 999999 → decimal n ≡ text → ⊥

abbrev pub Some : List ℕ → ℕ → Type 0
Some text n = (n ≤ 999999) × (decimal n ≡ text)

pub short : (n : ℕ) → n ≤ 999999 → length (decimal n) ≤ 6
short n small = length-decimal-le 6 n (omega arith) (omega arith) (omega arith)

pub none_long : (text : List ℕ) → 6 < length text → None text
none_long text long n small is = omega (arith, ap length is, short n small)

pub none_empty : (text : List ℕ) → length text ≡ 0 → None text
none_empty text empty n small is = omega (arith, ap length is, decimal_nonempty n (omega arith))

-- the last digit of a number, and what stands before it
record Ends (n : ℕ) (front : List ℕ) (last : ℕ) : Type 0 where
  digit : last ≡ 48 + n % 10
  before : ((n < 10) × (front ≡ [])) ⊎ ((10 ≤ n) × (front ≡ decimal (n / 10)))

ends : (n : ℕ) (front : List ℕ) (last : ℕ) → n ≤ 999999 → decimal n ≡ front ++ last ∷ [] → Ends n front last
ends n front last small is = by_size (cases_lt n 10)
  where
    by_size : (n < 10) ⊎ (10 ≤ n) → Ends n front last
    by_size (inl p) =
        let (a, b) = same_from_push front [] last (48 + n) (sym is ∙ decimal_digit n p) in
        record { digit = omega arith; before = inl (p, a) }
    by_size (inr p) =
        let (a, b) = same_from_push front (decimal (n / 10)) last (48 + n % 10) (sym is ∙ decimal_step n p (omega arith)) in
        record { digit = b; before = inr (p, a) }

module _ (text front : List ℕ) (last : ℕ) (parts : text ≡ front ++ last ∷ []) where
  pub none_letter : ((48 ≤ last) × (last ≤ 57) → ⊥) → None text
  none_letter other n small is = let e = ends n front last small (is ∙ parts) in other (omega (arith, e.digit), omega (arith, e.digit))

  pub some_digit : length front ≡ 0 → 48 ≤ last → last ≤ 57 → Some text (last - 48)
  some_digit alone low high =
      let spelled : 48 + (last - 48) ≡ last = omega arith in
      (omega arith, decimal_digit (last - 48) (omega arith) ∙ ap (λ z. z ∷ []) spelled ∙ sym (parts ∙ ap (λ z. z ++ last ∷ []) (nil_from_length front alone)))

  module _ (more : length front ≡ 0 → ⊥) where
    high : (n : ℕ) → n ≤ 999999 → decimal n ≡ text → (front ≡ decimal (n / 10)) × (10 ≤ n)
    high n small is = by_size (ends n front last small (is ∙ parts)).before
      where
        by_size : ((n < 10) × (front ≡ [])) ⊎ ((10 ≤ n) × (front ≡ decimal (n / 10))) → (front ≡ decimal (n / 10)) × (10 ≤ n)
        by_size (inl (p, e)) = absurd (more (ap length e))
        by_size (inr (p, e)) = (e, p)

    pub none_front : None front → None text
    none_front absent n small is = let (e, p) = high n small is in absent (n / 10) (omega arith) (sym e)

    pub none_bad : (m : ℕ) → Some front m → (m ≡ 0) ⊎ (99999 < m) → None text
    none_bad m some bad n small is =
        let (e, p) = high n small is in
        let same = decimal_injective m (n / 10) (omega arith) (omega arith) (some.1 ∙ e) in
        by_cause bad same p
      where
        by_cause : (m ≡ 0) ⊎ (99999 < m) → m ≡ n / 10 → 10 ≤ n → ⊥
        by_cause (inl z) same p = omega arith
        by_cause (inr z) same p = omega arith

    pub some_more : (m : ℕ) → Some front m → (m ≡ 0 → ⊥) → m ≤ 99999 → 48 ≤ last → last ≤ 57 → Some text (m * 10 + (last - 48))
    some_more m some nonzero small low high =
        let n = m * 10 + (last - 48) in
        let up : n / 10 ≡ m = omega arith in
        let digit : 48 + n % 10 ≡ last = omega arith in
        (omega arith, decimal_step n (omega arith) (omega arith) ∙ ap (λ z. decimal z ++ (48 + n % 10) ∷ []) up ∙ ap (λ z. decimal m ++ z ∷ []) digit ∙ ap (λ z. z ++ last ∷ []) some.1 ∙ sym parts)
