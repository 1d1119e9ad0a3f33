-- Names: the test of equality, and the order of their bytes. Assumes nothing.
use Rattle.std.proofs.Common.{◌≡◌, ℕ, ◌<◌, Bool, true, false, ◌&&◌, eqb, ltb, ◌⊎◌, List, [], ◌∷◌, sym, refl, ◌∙◌, subst, ap₂, inl, inr, arith}
use Rattle.std.proofs.lemmas.Bool.{both_ways, eqb-true, eq-eqb, ltb-true, ltb-false, lt-ltb, and_parts, and_from, or_cases, or_parts, or_left, or_right, cases_order}
use Rattle.typing.specs.Forms.{Name, same}
use Rattle.typing.specs.Strings.{before, Ahead, Rising}
use Rattle.typing.specs.Terms.{Term}

pub same_true : (n m : Name) → same n m ≡ true → n ≡ m
same_true [] [] e = refl
same_true [] (c ∷ cs) e = absurd (both_ways false refl e)
same_true (b ∷ bs) [] e = absurd (both_ways false refl e)
same_true (b ∷ bs) (c ∷ cs) e =
    let p = and_parts (eqb b c) (same bs cs) e in
    ap₂ ◌∷◌ (eqb-true b c p.0) (same_true bs cs p.1)

pub same_refl : (n : Name) → same n n ≡ true
same_refl [] = refl
same_refl (b ∷ bs) = and_from _ _ (eq-eqb b b refl) (same_refl bs)

pub before_irreflexive : (n : Name) → before n n ≡ true → ⊥
before_irreflexive [] e = both_ways false refl e
before_irreflexive (b ∷ bs) e = by_case (or_cases (ltb b b) (eqb b b && before bs bs) e) (before_irreflexive bs)
  where
    by_case : (ltb b b ≡ true) ⊎ ((eqb b b && before bs bs) ≡ true) → (before bs bs ≡ true → ⊥) → ⊥
    by_case (inl t) later = omega (arith, ltb-true b b t)
    by_case (inr t) later = later (and_parts (eqb b b) (before bs bs) t).1

-- the first byte in which two names differ decides
before_cases : (b c : ℕ) (bs cs : Name) → before (b ∷ bs) (c ∷ cs) ≡ true → (b < c) ⊎ ((b ≡ c) × (before bs cs ≡ true))
before_cases b c bs cs e = by_case (or_cases (ltb b c) (eqb b c && before bs cs) e)
  where
    by_case : (ltb b c ≡ true) ⊎ ((eqb b c && before bs cs) ≡ true) → (b < c) ⊎ ((b ≡ c) × (before bs cs ≡ true))
    by_case (inl t) = inl (ltb-true b c t)
    by_case (inr t) = let p = and_parts (eqb b c) (before bs cs) t in inr (eqb-true b c p.0, p.1)

before_first : (b c : ℕ) (bs cs : Name) → b < c → before (b ∷ bs) (c ∷ cs) ≡ true
before_first b c bs cs lt = or_left _ _ (lt-ltb b c lt)

before_rest : (b c : ℕ) (bs cs : Name) → b ≡ c → before bs cs ≡ true → before (b ∷ bs) (c ∷ cs) ≡ true
before_rest b c bs cs e t = or_right _ _ (and_from _ _ (eq-eqb b c e) t)

pub before_trans : (n m k : Name) → before n m ≡ true → before m k ≡ true → before n k ≡ true
before_trans [] [] k p q = absurd (both_ways false refl p)
before_trans [] (c ∷ cs) [] p q = absurd (both_ways false refl q)
before_trans [] (c ∷ cs) (d ∷ ds) p q = refl
before_trans (b ∷ bs) [] k p q = absurd (both_ways false refl p)
before_trans (b ∷ bs) (c ∷ cs) [] p q = absurd (both_ways false refl q)
before_trans (b ∷ bs) (c ∷ cs) (d ∷ ds) p q = by_case (before_cases b c bs cs p) (before_cases c d cs ds q) (before_trans bs cs ds)
  where
    by_case : (b < c) ⊎ ((b ≡ c) × (before bs cs ≡ true)) → (c < d) ⊎ ((c ≡ d) × (before cs ds ≡ true)) → (before bs cs ≡ true → before cs ds ≡ true → before bs ds ≡ true) → before (b ∷ bs) (d ∷ ds) ≡ true
    by_case (inl x) (inl y) later = before_first b d bs ds (omega (arith, x, y))
    by_case (inl x) (inr y) later = before_first b d bs ds (omega (arith, x, y.0))
    by_case (inr x) (inl y) later = before_first b d bs ds (omega (arith, x.0, y))
    by_case (inr x) (inr y) later = before_rest b d bs ds (x.0 ∙ y.0) (later x.1 y.1)

pub before_total : (n m : Name) → same n m ≡ false → before n m ≡ false → before m n ≡ true
before_total [] [] s t = absurd (both_ways true s refl)
before_total [] (c ∷ cs) s t = absurd (both_ways true t refl)
before_total (b ∷ bs) [] s t = refl
before_total (b ∷ bs) (c ∷ cs) s t = by_case (cases_order b c) (before_total bs cs)
  where
    parts : (ltb b c ≡ false) × ((eqb b c && before bs cs) ≡ false)
    parts = or_parts (ltb b c) (eqb b c && before bs cs) t

    by_case : (b ≡ c) ⊎ ((b < c) ⊎ (c < b)) → (same bs cs ≡ false → before bs cs ≡ false → before cs bs ≡ true) → before (c ∷ cs) (b ∷ bs) ≡ true
    by_case (inl e) later = before_rest c b cs bs (sym e) (later (subst (λ x. (x && same bs cs) ≡ false) (eq-eqb b c e) s) (subst (λ x. (x && before bs cs) ≡ false) (eq-eqb b c e) parts.1))
    by_case (inr (inl lt)) later = absurd (omega (arith, ltb-false b c parts.0))
    by_case (inr (inr gt)) later = before_first c b cs bs gt

-- no entry has this name
abbrev pub Unlisted : Name → List (Name × Term) → Type 0
Unlisted n [] = Unit {0}
Unlisted n (e ∷ es) = (same n e.0 ≡ false) × Unlisted n es

pub ahead_unlisted : (n : Name) (es : List (Name × Term)) → Ahead n es → Rising es → Unlisted n es
ahead_unlisted n [] ahead rising = tt
ahead_unlisted n (e ∷ es) ahead rising =
    (apart (same n e.0) refl, ahead_unlisted n es (further es rising.1) rising.2)
  where
    apart : (b : Bool) → same n e.0 ≡ b → b ≡ false
    apart true is = absurd (before_irreflexive n (subst (λ m. before n m ≡ true) (sym (same_true n e.0 is)) ahead))
    apart false is = refl

    further : (fs : List (Name × Term)) → Ahead e.0 fs → Ahead n fs
    further [] a = tt
    further (f ∷ fs) a = before_trans n e.0 f.0 ahead a
