-- Record types: their places, filling them, and variables for all places. Assumes nothing.
use Rattle.std.proofs.Common.{◌≡◌, ℕ, zero, suc, ◌+◌, ◌<◌, ◌≤◌, List, [], ◌∷◌, ◌++◌, map, length, get_or, set, replicate, sym, refl, ap, ◌∙◌, subst, ap₂, arith}
use Rattle.std.proofs.lemmas.List.{append-nil}
use Rattle.typing.specs.Constraints.{fresh}
use Rattle.typing.specs.Heads.{Sort, type, place}
use Rattle.typing.specs.Solved.{Bounded}
use Rattle.typing.specs.Terms.{Term, head, ◌·◌, applied, rec, absent, present, fill, Sorted}
use Rattle.typing.specs.declared.head.Head.TheVariants.{Rec}

pub fill_applied : (ρ : ℕ → Term) (t : Term) (xs : List Term) → fill ρ (applied t xs) ≡ applied (fill ρ t) (map (fill ρ) xs)
fill_applied ρ t [] = refl
fill_applied ρ t (x ∷ xs) = fill_applied ρ (t · x) xs

pub fill_rec : (ρ : ℕ → Term) (xs : List Term) → fill ρ (rec xs) ≡ rec (map (fill ρ) xs)
fill_rec ρ xs = fill_applied ρ (head Rec) xs

-- terms of these sorts
abbrev pub EachSorted : (ℕ → Sort → Type 0) → ℕ → List Sort → List Term → Type 0
EachSorted V labels [] [] = Unit {0}
EachSorted V labels [] (x ∷ xs) = ⊥
EachSorted V labels (s ∷ ss) [] = ⊥
EachSorted V labels (s ∷ ss) (x ∷ xs) = Sorted V labels [] s x × EachSorted V labels ss xs

pub applied_sorted : (V : ℕ → Sort → Type 0) (labels : ℕ) (ss : List Sort) (xs : List Term) (N : List Sort) (s : Sort) (t : Term) → Sorted V labels (ss ++ N) s t → EachSorted V labels ss xs → Sorted V labels N s (applied t xs)
applied_sorted V labels [] [] N s t so each = so
applied_sorted V labels [] (x ∷ xs) N s t so each = absurd each
applied_sorted V labels (q ∷ ss) [] N s t so each = absurd each
applied_sorted V labels (q ∷ ss) (x ∷ xs) N s t so each = applied_sorted V labels ss xs N s (t · x) (q, so, each.0) each.1

applied_parts : (V : ℕ → Sort → Type 0) (labels : ℕ) (xs : List Term) (N : List Sort) (s : Sort) (t : Term) → Sorted V labels N s (applied t xs) → (ss : List Sort) × Sorted V labels (ss ++ N) s t × EachSorted V labels ss xs
applied_parts V labels [] N s t so = ([], so, tt)
applied_parts V labels (x ∷ xs) N s t so =
    let r = applied_parts V labels xs N s (t · x) so in
    (r.1.0 ∷ r.0, r.1.1, (r.1.2, r.2))

pub rec_sorted : (V : ℕ → Sort → Type 0) (labels : ℕ) (xs : List Term) → EachSorted V labels (replicate labels place) xs → Sorted V labels [] type (rec xs)
rec_sorted V labels xs each =
    applied_sorted V labels (replicate labels place) xs [] type (head Rec) (sym (append-nil (replicate labels place)), refl) each

pub rec_places : (V : ℕ → Sort → Type 0) (labels : ℕ) (xs : List Term) → Sorted V labels [] type (rec xs) → EachSorted V labels (replicate labels place) xs
rec_places V labels xs so =
    let r = applied_parts V labels xs [] type (head Rec) so in
    let e : r.0 ≡ replicate labels place = sym (append-nil r.0) ∙ sym r.1.0 in
    subst (λ ss. EachSorted V labels ss xs) e r.2

pub places_long : (V : ℕ → Sort → Type 0) (labels n : ℕ) (xs : List Term) → EachSorted V labels (replicate n place) xs → length xs ≡ n
places_long V labels zero [] each = refl
places_long V labels zero (x ∷ xs) each = absurd each
places_long V labels (suc n) [] each = absurd each
places_long V labels (suc n) (x ∷ xs) each = ap suc (places_long V labels n xs each.1)

pub place_at : (V : ℕ → Sort → Type 0) (labels n : ℕ) (xs : List Term) → EachSorted V labels (replicate n place) xs → (i : ℕ) → Sorted V labels [] place (get_or xs i absent)
place_at V labels zero [] each i = (refl, refl)
place_at V labels zero (x ∷ xs) each i = absurd each
place_at V labels (suc n) [] each i = absurd each
place_at V labels (suc n) (x ∷ xs) each zero = each.0
place_at V labels (suc n) (x ∷ xs) each (suc i) = place_at V labels n xs each.1 i

pub place_set : (V : ℕ → Sort → Type 0) (labels n : ℕ) (xs : List Term) → EachSorted V labels (replicate n place) xs → (i : ℕ) (v : Term) → Sorted V labels [] place v → EachSorted V labels (replicate n place) (set xs i v)
place_set V labels zero [] each i v so = tt
place_set V labels zero (x ∷ xs) each i v so = absurd each
place_set V labels (suc n) [] each i v so = absurd each
place_set V labels (suc n) (x ∷ xs) each zero v so = (so, each.1)
place_set V labels (suc n) (x ∷ xs) each (suc i) v so = (each.0, place_set V labels n xs each.1 i v so)

pub present_sorted : (V : ℕ → Sort → Type 0) (labels : ℕ) (t : Term) → Sorted V labels [] type t → Sorted V labels [] place (present t)
present_sorted V labels t so = (type, (refl, refl), so)

pub present_part : (V : ℕ → Sort → Type 0) (labels : ℕ) (t : Term) → Sorted V labels [] place (present t) → Sorted V labels [] type t
present_part V labels t so =
    let e : type ∷ [] ≡ so.0 ∷ [] = so.1.0 in
    let s : type ≡ so.0 = cc in
    subst (λ q. Sorted V labels [] q t) (sym s) so.2

pub absent_places : (V : ℕ → Sort → Type 0) (labels n : ℕ) → EachSorted V labels (replicate n place) (replicate n absent)
absent_places V labels zero = tt
absent_places V labels (suc n) = ((refl, refl), absent_places V labels n)

pub absent_filled : (ρ : ℕ → Term) (n : ℕ) → map (fill ρ) (replicate n absent) ≡ replicate n absent
absent_filled ρ zero = refl
absent_filled ρ (suc n) = ap (λ xs. absent ∷ xs) (absent_filled ρ n)

-- so many variables from w on
next : (w i : ℕ) → w + 1 + i ≡ w + suc i
next w i = omega arith

pub fresh_values : (ρ : ℕ → Term) (n w : ℕ) (xs : List Term) → length xs ≡ n → ((i : ℕ) → i < n → ρ (w + i) ≡ get_or xs i absent) → map (fill ρ) (fresh n w) ≡ xs
fresh_values ρ zero w [] long is = refl
fresh_values ρ zero w (x ∷ xs) long is = absurd (omega arith)
fresh_values ρ (suc n) w [] long is = absurd (omega arith)
fresh_values ρ (suc n) w (x ∷ xs) long is =
    let z : w ≡ w + 0 = omega arith in
    ap₂ ◌∷◌ (ap ρ z ∙ is 0 (omega arith)) (fresh_values ρ n (w + 1) xs (omega arith) (λ i lt. ap ρ (next w i) ∙ is (suc i) (omega arith)))

pub fresh_sorted : (V : ℕ → Sort → Type 0) (labels n w : ℕ) → ((i : ℕ) → i < n → V (w + i) place) → EachSorted V labels (replicate n place) (fresh n w)
fresh_sorted V labels zero w is = tt
fresh_sorted V labels (suc n) w is =
    let z : w + 0 ≡ w = omega arith in
    ((refl, subst (λ k. V k place) z (is 0 (omega arith))), fresh_sorted V labels n (w + 1) (λ i lt. subst (λ k. V k place) (sym (next w i)) (is (suc i) (omega arith))))

pub fresh_long : (n w : ℕ) → length (fresh n w) ≡ n
fresh_long zero w = refl
fresh_long (suc n) w = ap suc (fresh_long n (w + 1))

abbrev pub EachBounded : ℕ → List Term → Type 0
EachBounded n [] = Unit {0}
EachBounded n (x ∷ xs) = Bounded n x × EachBounded n xs

pub fresh_bounded : (m n w : ℕ) → w + n ≤ m → EachBounded m (fresh n w)
fresh_bounded m zero w le = tt
fresh_bounded m (suc n) w le = (omega arith, fresh_bounded m n (w + 1) (omega arith))

pub set_bounded : (m : ℕ) (xs : List Term) (i : ℕ) (v : Term) → EachBounded m xs → Bounded m v → EachBounded m (set xs i v)
set_bounded m [] i v each b = tt
set_bounded m (x ∷ xs) zero v each b = (b, each.1)
set_bounded m (x ∷ xs) (suc i) v each b = (each.0, set_bounded m xs i v each.1 b)

pub applied_bounded : (m : ℕ) (t : Term) (xs : List Term) → Bounded m t → EachBounded m xs → Bounded m (applied t xs)
applied_bounded m t [] b each = b
applied_bounded m t (x ∷ xs) b each = applied_bounded m (t · x) xs (b, each.0) each.1

pub replicate_bounded : (m n : ℕ) → EachBounded m (replicate n absent)
replicate_bounded m zero = tt
replicate_bounded m (suc n) = (tt, replicate_bounded m n)
