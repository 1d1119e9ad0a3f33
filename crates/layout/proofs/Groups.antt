-- Group numbers: reading one is the inverse of spelling one. Assumes nothing.
use Rattle.std.proofs.Common.{◌≡◌, ℕ, zero, suc, ◌+◌, ◌-◌, ◌*◌, ◌/◌, ◌%◌, ◌<◌, ◌≤◌, ltb, ◌⊎◌, List, [], ◌∷◌, ◌++◌, length, sym, refl, ap, ◌∙◌, inl, inr, arith}
use Rattle.std.proofs.lemmas.Bool.{lt-ltb, le-ltb, cases_lt, cond_both}
use Rattle.layout.specs.Groups.{bound, groups}

pub groups_small : (more n : ℕ) → n < 128 → groups more n ≡ n ∷ []
groups_small zero n small = refl
groups_small (suc more) n small = rw (lt-ltb n 128 small)

pub groups_large : (more n : ℕ) → 128 ≤ n → groups (suc more) n ≡ (128 + n % 128) ∷ groups more (n / 128)
groups_large more n large = rw (le-ltb n 128 large)

-- the same where at least one more byte may follow
pub groups_more : (more n : ℕ) → 0 < more → 128 ≤ n → groups more n ≡ (128 + n % 128) ∷ groups (more - 1) (n / 128)
groups_more zero n some large = absurd (omega arith)
groups_more (suc more) n some large = groups_large more n large ∙ ap (λ k. (128 + n % 128) ∷ groups k (n / 128)) less
  where
    less : more ≡ suc more - 1
    less = omega arith

pub bound_some : (more : ℕ) → 128 ≤ bound more
bound_some zero = omega arith
bound_some (suc more) = omega (arith, bound_some more)

-- a number takes at least one byte
pub groups_some : (more n : ℕ) → 0 < length (groups more n)
groups_some zero n = omega arith
groups_some (suc more) n = cond_both (ltb n 128) (n ∷ []) ((128 + n % 128) ∷ groups more (n / 128)) (λ z. 0 < length z) (λ _. omega arith) (λ _. omega arith)

-- all but the last of three bytes
pub bound_two : (more : ℕ) → more ≤ 1 → bound more ≤ 16384
bound_two zero h = omega arith
bound_two (suc zero) h = omega arith
bound_two (suc (suc more)) h = absurd (omega arith)

heads : {a b : ℕ} {x y : List ℕ} → a ∷ x ≡ b ∷ y → a ≡ b
heads e = cc

tails : {a b : ℕ} {x y : List ℕ} → a ∷ x ≡ b ∷ y → x ≡ y
tails e = cc

module _ (more n : ℕ) (rest : List ℕ) where
  pub spells_small : n < 128 → groups more n ++ rest ≡ n ∷ rest
  spells_small small = ap (λ z. z ++ rest) (groups_small more n small)

  pub spells_large : 128 ≤ n → groups (suc more) n ++ rest ≡ (128 + n % 128) ∷ (groups more (n / 128) ++ rest)
  spells_large large = ap (λ z. z ++ rest) (groups_large more n large)

-- two numbers that begin the same bytes are equal, and leave the same rest
pub groups_prefix : (more a b : ℕ) (x y : List ℕ) → a < bound more → b < bound more → groups more a ++ x ≡ groups more b ++ y → (a ≡ b) × (x ≡ y)
groups_prefix zero a b x y fa fb e = (heads e, tails e)
groups_prefix (suc more) a b x y fa fb e =
    by_size (cases_lt a 128) (cases_lt b 128) (groups_prefix more (a / 128) (b / 128) x y (omega arith) (omega arith))
  where
    by_size : (a < 128) ⊎ (128 ≤ a) → (b < 128) ⊎ (128 ≤ b) → (groups more (a / 128) ++ x ≡ groups more (b / 128) ++ y → (a / 128 ≡ b / 128) × (x ≡ y)) → (a ≡ b) × (x ≡ y)
    by_size (inl p) (inl q) above =
        let s = sym (spells_small (suc more) a x p) ∙ e ∙ spells_small (suc more) b y q in
        (heads s, tails s)
    by_size (inl p) (inr q) above = absurd (omega (arith, heads (sym (spells_small (suc more) a x p) ∙ e ∙ spells_large more b y q)))
    by_size (inr p) (inl q) above = absurd (omega (arith, heads (sym (spells_large more a x p) ∙ e ∙ spells_small (suc more) b y q)))
    by_size (inr p) (inr q) above =
        let s = sym (spells_large more a x p) ∙ e ∙ spells_large more b y q in
        let r = above (tails s) in
        (omega (arith, heads s, r.0), r.1)

-- No number begins these bytes.
abbrev pub None : ℕ → List ℕ → Type 0
None more bytes = (n : ℕ) (rest : List ℕ) → n < bound more → bytes ≡ groups more n ++ rest → ⊥

-- The number n begins these bytes, before the rest.
abbrev pub Some : ℕ → List ℕ → ℕ → List ℕ → Type 0
Some more bytes n rest = (n < bound more) × (bytes ≡ groups more n ++ rest)

pub none_empty : (more : ℕ) (bytes : List ℕ) → length bytes ≡ 0 → None more bytes
none_empty more bytes empty n rest fits is = by_size more n (cases_lt n 128) (ap length is)
  where
    by_size : (k m : ℕ) → (m < 128) ⊎ (128 ≤ m) → length bytes ≡ length (groups k m ++ rest) → ⊥
    by_size zero m h e = omega arith
    by_size (suc k) m (inl p) e = omega (arith, ap length (spells_small (suc k) m rest p))
    by_size (suc k) m (inr p) e = omega (arith, ap length (spells_large k m rest p))

module _ (bytes : List ℕ) (b : ℕ) (tail : List ℕ) (is : bytes ≡ b ∷ tail) where
  pub some_small : (more : ℕ) → b < 128 → Some more bytes b tail
  some_small more small = (omega (arith, bound_some more), is ∙ sym (spells_small more b tail small))

  pub none_ended : (more : ℕ) → more ≡ 0 → 128 ≤ b → None more bytes
  none_ended zero e large n rest fits spelled = omega (arith, heads (sym is ∙ spelled))
  none_ended (suc more) e large n rest fits spelled = omega arith

  module _ (more : ℕ) (large : 128 ≤ b) where
    -- what a longer number says of the bytes behind the first
    above : (n : ℕ) (rest : List ℕ) → n < bound (suc more) → bytes ≡ groups (suc more) n ++ rest → (128 ≤ n) × (n / 128 < bound more) × (tail ≡ groups more (n / 128) ++ rest)
    above n rest fits spelled = by_size (cases_lt n 128)
      where
        by_size : (n < 128) ⊎ (128 ≤ n) → (128 ≤ n) × (n / 128 < bound more) × (tail ≡ groups more (n / 128) ++ rest)
        by_size (inl p) = absurd (omega (arith, heads (sym is ∙ spelled ∙ spells_small (suc more) n rest p)))
        by_size (inr p) = (p, omega arith, tails (sym is ∙ spelled ∙ spells_large more n rest p))

    pub none_above : None more tail → None (suc more) bytes
    none_above none n rest fits spelled =
        let h = above n rest fits spelled in
        none (n / 128) rest h.1 h.2

    pub none_longer : (rest : List ℕ) → Some more tail 0 rest → None (suc more) bytes
    none_longer rest some n other fits spelled =
        let h = above n other fits spelled in
        omega (arith, (groups_prefix more 0 (n / 128) rest other some.0 h.1 (sym some.1 ∙ h.2)).0, h.0)

    pub some_above : (high : ℕ) (rest : List ℕ) → b < 256 → 0 < high → Some more tail high rest → Some (suc more) bytes (high * 128 + (b - 128)) rest
    some_above high rest byte some h =
        let n = high * 128 + (b - 128) in
        let low : 128 + n % 128 ≡ b = omega arith in
        let up : n / 128 ≡ high = omega arith in
        (omega (arith, h.0), is ∙ (ap (λ z. b ∷ z) h.1) ∙ sym (spells_large more n rest (omega arith) ∙ ap (λ z. z ∷ (groups more (n / 128) ++ rest)) low ∙ ap (λ z. b ∷ (groups more z ++ rest)) up))
