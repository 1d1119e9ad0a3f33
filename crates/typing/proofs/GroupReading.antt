-- Reading a group number is the inverse of spelling one. Assumes nothing.
use Rattle.std.proofs.Common.{◌≡◌, ℕ, zero, suc, ◌+◌, ◌-◌, ◌*◌, ◌/◌, ◌%◌, ◌<◌, ◌≤◌, Bool, true, false, cond, ltb, ◌⊎◌, List, [], ◌∷◌, ◌++◌, Some, None, Option, refl, ap, ◌∙◌, subst, ap₂, inl, inr, arith}
use Rattle.std.proofs.lemmas.Bool.{lt-ltb, le-ltb, ltb-true, ltb-false, cases_lt}
use Rattle.layout.specs.Groups.{bound, groups}
use Rattle.layout.proofs.Groups.{spells_small, spells_large, some_small, some_above}
use Rattle.typing.specs.Parsing.{and_then, only_if, read_group}
use Rattle.typing.specs.Strings.{Bytes}

pub then_some : {A B : Type 0} (o : Option A) (f : A → Option B) (b : B) → and_then o f ≡ Some b → (a : A) × (o ≡ Some a) × (f a ≡ Some b)
then_some None f b e = absurd (let z : ◌≡◌ {A = ℕ} 0 1 = cc in omega (arith, z))
then_some (Some a) f b e = (a, refl, e)

pub if_some : {A : Type 0} (t : Bool) (o : Option A) (a : A) → only_if t o ≡ Some a → (t ≡ true) × (o ≡ Some a)
if_some true o a e = (refl, e)
if_some false o a e = absurd (let z : ◌≡◌ {A = ℕ} 0 1 = cc in omega (arith, z))

pub if_true : {A : Type 0} (t : Bool) (o : Option A) → t ≡ true → only_if t o ≡ o
if_true t o e = ap (λ b. only_if b o) e

pub then_is : {A B : Type 0} (o : Option A) (a : A) (f : A → Option B) → o ≡ Some a → and_then o f ≡ f a
then_is o a f e = ap (λ x. and_then x f) e

pub some_is : {A : Type 0} (a b : A) → Some a ≡ Some b → a ≡ b
some_is a b e = cc

pub pair_parts : {A B : Type 0} (a c : A) (b d : B) → ◌≡◌ {A = Option (A × B)} (Some (a, b)) (Some (c, d)) → (a ≡ c) × (b ≡ d)
pair_parts {A} {B} a c b d e =
    let q : ◌≡◌ {A = A × B} (a, b) (c, d) = some_is (a, b) (c, d) e in
    (ap (λ (p : A × B). p.0) q, ap (λ (p : A × B). p.1) q)

pub group_spelled : (m n : ℕ) (rest : List ℕ) → n < bound m → read_group m (groups m n ++ rest) ≡ Some (n, rest)
group_spelled zero n rest fits = if_true (ltb n 128) (Some (n, rest)) (lt-ltb n 128 fits)
group_spelled (suc m) n rest fits = by_size (cases_lt n 128) (λ large. group_spelled m (n / 128) rest (omega (arith, fits)))
  where
    later : ℕ → List ℕ → Option (ℕ × List ℕ)
    later b bs = and_then (read_group m bs) (λ p. only_if (ltb 0 p.0) (Some (p.0 * 128 + (b - 128), p.1)))

    by_size : (n < 128) ⊎ (128 ≤ n) → (128 ≤ n → read_group m (groups m (n / 128) ++ rest) ≡ Some (n / 128, rest)) → read_group (suc m) (groups (suc m) n ++ rest) ≡ Some (n, rest)
    by_size (inl small) above =
        ap (read_group (suc m)) (spells_small (suc m) n rest small) ∙ ap (λ b. cond b (Some (n, rest)) (later n rest)) (lt-ltb n 128 small)
    by_size (inr large) above =
        let b = 128 + n % 128 in
        let tail = groups m (n / 128) ++ rest in
        let whole : n / 128 * 128 + (128 + n % 128 - 128) ≡ n = omega arith in
        ap (read_group (suc m)) (spells_large m n rest large) ∙ ap (λ t. cond t (Some (b, tail)) (later b tail)) (le-ltb b 128 (omega arith)) ∙ then_is (read_group m tail) (n / 128, rest) (λ p. only_if (ltb 0 p.0) (Some (p.0 * 128 + (b - 128), p.1))) (above large) ∙ if_true (ltb 0 (n / 128)) _ (lt-ltb 0 (n / 128) (omega arith)) ∙ ap (λ x. Some (x, rest)) whole

pub bytes_rest : (xs ys : List ℕ) → Bytes (xs ++ ys) → Bytes ys
bytes_rest [] ys b = b
bytes_rest (x ∷ xs) ys b = bytes_rest xs ys b.1

pub group_read : (m : ℕ) (bs : List ℕ) (n : ℕ) (rest : List ℕ) → Bytes bs → read_group m bs ≡ Some (n, rest) → (n < bound m) × (bs ≡ groups m n ++ rest)
group_read m [] n rest bytes e = absurd (let z : ◌≡◌ {A = ℕ} 0 1 = cc in omega (arith, z))
group_read zero (b ∷ bs) n rest bytes e =
    let r = if_some (ltb b 128) (Some (b, bs)) (n, rest) e in
    let p = pair_parts b n bs rest r.1 in
    let eb = p.0 in
    let er = p.1 in
    (omega (arith, ltb-true b 128 r.0, eb), ap₂ ◌∷◌ eb er)
group_read (suc m) (b ∷ bs) n rest bytes e = by_size (ltb b 128) refl e (λ h r. group_read m bs h r bytes.1)
  where
    later : Option (ℕ × List ℕ)
    later = and_then (read_group m bs) (λ p. only_if (ltb 0 p.0) (Some (p.0 * 128 + (b - 128), p.1)))

    by_size : (t : Bool) → ltb b 128 ≡ t → cond t (Some (b, bs)) later ≡ Some (n, rest) → ((h : ℕ) (r : List ℕ) → read_group m bs ≡ Some (h, r) → (h < bound m) × (bs ≡ groups m h ++ r)) → (n < bound (suc m)) × (b ∷ bs ≡ groups (suc m) n ++ rest)
    by_size true is e' above =
        let p = pair_parts b n bs rest e' in
        let eb = p.0 in
        let er = p.1 in
        let s = some_small (b ∷ bs) b bs refl (suc m) (ltb-true b 128 is) in
        subst (λ (x : ℕ). (x < bound (suc m)) × (b ∷ bs ≡ groups (suc m) x ++ rest)) eb (s.0, s.1 ∙ ap (λ y. groups (suc m) b ++ y) er)
    by_size false is e' above =
        let a = then_some (read_group m bs) (λ p. only_if (ltb 0 p.0) (Some (p.0 * 128 + (b - 128), p.1))) (n, rest) e' in
        let high = a.0.0 in
        let r = if_some (ltb 0 high) (Some (high * 128 + (b - 128), a.0.1)) (n, rest) a.2 in
        let p = pair_parts (high * 128 + (b - 128)) n a.0.1 rest r.1 in
        let en = p.0 in
        let er = p.1 in
        let up = above high a.0.1 a.1 in
        let s = some_above (b ∷ bs) b bs refl m (ltb-false b 128 is) high a.0.1 bytes.0 (ltb-true 0 high r.0) up in
        subst (λ (x : ℕ). (x < bound (suc m)) × (b ∷ bs ≡ groups (suc m) x ++ rest)) en (s.0, s.1 ∙ ap (λ y. groups (suc m) (high * 128 + (b - 128)) ++ y) er)
