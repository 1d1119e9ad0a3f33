-- Sorted terms: filling keeps sorts, a ground instance shows the sorts of what was filled in, and
-- laying sorted terms out gives well-shaped cells. Assumes nothing.
use Rattle.std.proofs.Common.{◌≡◌, ℕ, ◌<◌, ◌≤◌, cond, eqb, ◌⊎◌, List, [], ◌∷◌, ◌++◌, length, sym, refl, ap, ◌∙◌, subst, ap₂, inl, inr, arith}
use Rattle.std.proofs.lemmas.List.{get_or_append_left, get_or_push, length_push}
use Rattle.std.proofs.lemmas.Bool.{cases_lt, eq-eqb, ne_eqb}
use Rattle.typing.specs.Cells.{Cell, free, link, atom, apply, Graph, cell}
use Rattle.typing.specs.Heads.{Sort}
use Rattle.typing.specs.Solutions.{Proper, Tidy}
use Rattle.typing.specs.Solve.{Equations, lay, lay_all}
use Rattle.typing.specs.Solved.{Bounded, AllBounded, EquationsSorted}
use Rattle.typing.specs.Terms.{Term, var, head, ◌·◌, fill, variables, Sorted}
use Rattle.typing.proofs.Laying.{lay_placed, lay_all_placed, bounded_more, all_bounded_more}
use Rattle.typing.proofs.Renaming.{Each, each_append}
use Rattle.typing.proofs.Shapes.{Shape, ◌⇒◌, Shaped, WellShaped, SamePairs, Spine, spine_unique}

-- filling each variable with a term of its sort
pub fill_sorted : (V W : ℕ → Sort → Type 0) (Q : ℕ → Type 0) (labels : ℕ) (ρ : ℕ → Term) → ((k : ℕ) (q : Sort) → Q k → V k q → Sorted W labels [] q (ρ k)) → (t : Term) (N : List Sort) (s : Sort) → Each Q (variables t) → Sorted V labels N s t → Sorted W labels N s (fill ρ t)
fill_sorted V W Q labels ρ good (var k) N s each so = subst (λ M. Sorted W labels M s (ρ k)) (sym so.0) (good k s each.0 so.1)
fill_sorted V W Q labels ρ good (head h) N s each so = so
fill_sorted V W Q labels ρ good (f · x) N s each so =
    let r = each_append Q (variables f) (variables x) each in
    (so.0, fill_sorted V W Q labels ρ good f (so.0 ∷ N) s r.0 so.1, fill_sorted V W Q labels ρ good x [] so.0 r.1 so.2)

pub each_true : (ks : List ℕ) → Each (λ k. Unit {0}) ks
each_true [] = tt
each_true (k ∷ ks) = (tt, each_true ks)

sorted_spine : (V : ℕ → Sort → Type 0) (labels : ℕ) (t : Term) (x : Sort) (N : List Sort) (s : Sort) → Sorted V labels (x ∷ N) s t → Spine labels t (x ∷ N ⇒ s)
sorted_spine V labels (var k) x N s so = absurd (let wrong : x ∷ N ≡ [] = so.0 in let z : ◌≡◌ {A = ℕ} 0 1 = cc in omega (arith, z))
sorted_spine V labels (head h) x N s so = sym (ap₂ ◌⇒◌ so.0 so.1)
sorted_spine V labels (f · y) x N s so = (so.0, sorted_spine V labels f so.0 (x ∷ N) s so.1)

spine_fill : (labels : ℕ) (ρ : ℕ → Term) (t : Term) (A : Shape) → Spine labels t A → Spine labels (fill ρ t) A
spine_fill labels ρ (var k) A p = absurd p
spine_fill labels ρ (head h) A p = p
spine_fill labels ρ (f · x) (N ⇒ s) p = (p.0, spine_fill labels ρ f (p.0 ∷ N ⇒ s) p.1)

pub each_join : (P : ℕ → Type 0) (xs ys : List ℕ) → Each P xs → Each P ys → Each P (xs ++ ys)
each_join P [] ys a b = b
each_join P (x ∷ xs) ys a b = (a.0, each_join P xs ys a.1 b)

-- Where a filled term is sorted, each variable was filled with a term of its sort.
pub unfill_sorted : (V W : ℕ → Sort → Type 0) (labels : ℕ) (ρ : ℕ → Term) → ((k : ℕ) (q r : Sort) → V k q → V k r → q ≡ r) → (t : Term) (N : List Sort) (s : Sort) → Sorted V labels N s t → Sorted W labels N s (fill ρ t) → Each (λ k. (q : Sort) → V k q → Sorted W labels [] q (ρ k)) (variables t)
unfill_sorted V W labels ρ one (var k) N s so go =
    ((λ q v. subst (λ r. Sorted W labels [] r (ρ k)) (one k s q so.1 v) (subst (λ M. Sorted W labels M s (ρ k)) so.0 go)), tt)
unfill_sorted V W labels ρ one (head h) N s so go = tt
unfill_sorted V W labels ρ one (f · x) N s so go =
    let shapes = spine_unique labels (fill ρ f) (go.0 ∷ N ⇒ s) (so.0 ∷ N ⇒ s) (sorted_spine W labels (fill ρ f) go.0 N s go.1) (spine_fill labels ρ f (so.0 ∷ N ⇒ s) (sorted_spine V labels f so.0 N s so.1)) in
    let same : go.0 ≡ so.0 = cc in
    let left = unfill_sorted V W labels ρ one f (so.0 ∷ N) s so.1 (subst (λ a. Sorted W labels (a ∷ N) s (fill ρ f)) same go.1) in
    let right = unfill_sorted V W labels ρ one x [] so.0 so.2 (subst (λ a. Sorted W labels [] a (fill ρ x)) same go.2) in
    each_join (λ k. (q : Sort) → V k q → Sorted W labels [] q (ρ k)) (variables f) (variables x) left right

-- sorts that agree on the variables below n
pub sorted_agree : (V W : ℕ → Sort → Type 0) (labels n : ℕ) → ((k : ℕ) (q : Sort) → k < n → V k q → W k q) → (t : Term) (N : List Sort) (s : Sort) → Bounded n t → Sorted V labels N s t → Sorted W labels N s t
sorted_agree V W labels n agree (var k) N s b so = (so.0, agree k s b so.1)
sorted_agree V W labels n agree (head h) N s b so = so
sorted_agree V W labels n agree (f · x) N s b so =
    (so.0, sorted_agree V W labels n agree f (so.0 ∷ N) s b.0 so.1, sorted_agree V W labels n agree x [] so.0 b.1 so.2)

pub equations_agree : (V W : ℕ → Sort → Type 0) (labels n : ℕ) → ((k : ℕ) (q : Sort) → k < n → V k q → W k q) → (es : Equations) → AllBounded n es → EquationsSorted V labels es → EquationsSorted W labels es
equations_agree V W labels n agree [] b so = tt
equations_agree V W labels n agree (e ∷ es) b so =
    ((so.0.0, sorted_agree V W labels n agree e.0 [] so.0.0 b.0 so.0.1, sorted_agree V W labels n agree e.1 [] so.0.0 b.1 so.0.2), equations_agree V W labels n agree es b.2 so.1)

-- the shapes with another one at k
with_shape : (ℕ → Shape) → ℕ → Shape → ℕ → Shape
with_shape S k v i = cond (eqb i k) v (S i)

shape_here : (S : ℕ → Shape) (k : ℕ) (v : Shape) → with_shape S k v k ≡ v
unfolding with_shape
shape_here S k v = ap (λ b. cond b v (S k)) (eq-eqb k k refl)

shape_other : (S : ℕ → Shape) (k : ℕ) (v : Shape) (i : ℕ) → (i ≡ k → ⊥) → with_shape S k v i ≡ S i
unfolding with_shape
shape_other S k v i ne = ap (λ b. cond b v (S i)) (ne_eqb i k ne)

abbrev pub AgreeShapes : ℕ → (ℕ → Shape) → (ℕ → Shape) → Type 0
AgreeShapes n S R = (i : ℕ) → i < n → S i ≡ R i

shaped_agree : (labels n i : ℕ) (S R : ℕ → Shape) → i < n → AgreeShapes n S R → (c : Cell) → Proper n i c → Shaped labels R i c → Shaped labels S i c
shaped_agree labels n i S R lt agree free p sh = (sh.0, agree i lt ∙ sh.1)
shaped_agree labels n i S R lt agree (link j) p sh = agree i lt ∙ sh ∙ sym (agree j (omega (arith, p)))
shaped_agree labels n i S R lt agree (atom h) p sh = agree i lt ∙ sh
shaped_agree labels n i S R lt agree (apply a b) p sh = (sh.0, sh.1, sh.2, agree a p.0 ∙ sh.3, agree b p.1 ∙ sh.4, agree i lt ∙ sh.5)

-- what a term and its layout say of the shapes
pub record Fitted (labels : ℕ) (S : ℕ → Shape) (g g' : Graph) : Type 0 where
  pub shapes : ℕ → Shape
  pub well : WellShaped labels shapes g'
  pub agree : AgreeShapes (length g) shapes S

push_shaped : (labels : ℕ) (S : ℕ → Shape) (g : Graph) (c : Cell) (v : Shape) → Tidy (length g) g → WellShaped labels S g → Shaped labels (with_shape S (length g) v) (length g) c → WellShaped labels (with_shape S (length g) v) (g ++ c ∷ [])
push_shaped labels S g c v tidy well sh i lt = by_place (cases_lt i (length g))
  where
    by_place : (i < length g) ⊎ (length g ≤ i) → Shaped labels (with_shape S (length g) v) i (cell (g ++ c ∷ []) i)
    by_place (inl less) =
        subst (Shaped labels (with_shape S (length g) v) i) (sym (get_or_append_left g (c ∷ []) free i less))
        (shaped_agree labels (length g) i (with_shape S (length g) v) S less (λ k lk. shape_other S (length g) v k (omega arith)) (cell g i) (tidy.proper i) (well i less))
    by_place (inr le) =
        let e : length g ≡ i = omega (arith, lt, length_push g c) in
        subst (λ k. Shaped labels (with_shape S (length g) v) k (cell (g ++ c ∷ []) k)) e (subst (Shaped labels (with_shape S (length g) v) (length g)) (sym (get_or_push g c free (length g) refl)) sh)

abbrev pub VarShape : (ℕ → Shape) → ℕ → Sort → Type 0
VarShape S k q = S k ≡ ([] ⇒ q)

var_agree : (n : ℕ) (S R : ℕ → Shape) → AgreeShapes n R S → (k : ℕ) (q : Sort) → k < n → VarShape S k q → VarShape R k q
var_agree n S R agree k q lt v = agree k lt ∙ v

pub lay_shaped : (labels : ℕ) (t : Term) (S : ℕ → Shape) (g : Graph) → Tidy (length g) g → WellShaped labels S g → Bounded (length g) t → (N : List Sort) (s : Sort) → Sorted (VarShape S) labels N s t → (f : Fitted labels S g (lay t g).0) × (f.shapes (lay t g).1 ≡ (N ⇒ s))
lay_shaped labels (var k) S g tidy well b N s so =
    (record { shapes = S; well = well; agree = λ i lt. refl }, so.1 ∙ ap (λ M. M ⇒ s) (sym so.0))
lay_shaped labels (head h) S g tidy well b N s so =
    let v = N ⇒ s in
    let here = shape_here S (length g) v in
    (record { shapes = with_shape S (length g) v; well = push_shaped labels S g (atom h) v tidy well (here ∙ sym (ap₂ ◌⇒◌ so.0 so.1)); agree = λ i lt. shape_other S (length g) v i (omega arith) }, here)
lay_shaped labels (f · x) S g tidy well b N s so =
    let p = lay_placed f g tidy b.0 in
    let g₁ = (lay f g).0 in
    let bx = bounded_more (length g) (length g₁) p.laid.longer x b.1 in
    let q = lay_placed x g₁ p.laid.tidy bx in
    let one = lay_shaped labels f S g tidy well b.0 (so.0 ∷ N) s so.1 in
    let S₁ = one.0.shapes in
    let two = lay_shaped labels x S₁ g₁ p.laid.tidy one.0.well bx [] so.0 (sorted_agree (VarShape S) (VarShape S₁) labels (length g) (var_agree (length g) S S₁ one.0.agree) x [] so.0 b.1 so.2) in
    let S₂ = two.0.shapes in
    let g₂ = (lay x g₁).0 in
    let v = N ⇒ s in
    let a = (lay f g).1 in
    let c = (lay x g₁).1 in
    let ina : a < length g₂ = omega (arith, p.inside, q.laid.longer) in
    let sa : with_shape S₂ (length g₂) v a ≡ (so.0 ∷ N ⇒ s) = shape_other S₂ (length g₂) v a (omega (arith, ina)) ∙ two.0.agree a p.inside ∙ one.1 in
    let sc : with_shape S₂ (length g₂) v c ≡ ([] ⇒ so.0) = shape_other S₂ (length g₂) v c (omega (arith, q.inside)) ∙ two.1 in
    let here = shape_here S₂ (length g₂) v in
    (record { shapes = with_shape S₂ (length g₂) v; well = push_shaped labels S₂ g₂ (apply a c) v q.laid.tidy two.0.well (so.0, N, s, sa, sc, here); agree = λ i lt. shape_other S₂ (length g₂) v i (omega (arith, lt, p.laid.longer, q.laid.longer)) ∙ two.0.agree i (omega (arith, lt, p.laid.longer)) ∙ one.0.agree i lt }, here)

pub lay_all_shaped : (labels : ℕ) (es : Equations) (S : ℕ → Shape) (g : Graph) → Tidy (length g) g → WellShaped labels S g → AllBounded (length g) es → EquationsSorted (VarShape S) labels es → (f : Fitted labels S g (lay_all es g).0) × SamePairs f.shapes (lay_all es g).1
lay_all_shaped labels [] S g tidy well b so = (record { shapes = S; well = well; agree = λ i lt. refl }, tt)
lay_all_shaped labels (e ∷ es) S g tidy well b so =
    let p = lay_placed e.0 g tidy b.0 in
    let g₁ = (lay e.0 g).0 in
    let by = bounded_more (length g) (length g₁) p.laid.longer e.1 b.1 in
    let q = lay_placed e.1 g₁ p.laid.tidy by in
    let g₂ = (lay e.1 g₁).0 in
    let le : length g ≤ length g₂ = omega (arith, p.laid.longer, q.laid.longer) in
    let be = all_bounded_more (length g) (length g₂) le es b.2 in
    let r = lay_all_placed es g₂ q.laid.tidy be in
    let s = so.0.0 in
    let one = lay_shaped labels e.0 S g tidy well b.0 [] s so.0.1 in
    let S₁ = one.0.shapes in
    let two = lay_shaped labels e.1 S₁ g₁ p.laid.tidy one.0.well by [] s (sorted_agree (VarShape S) (VarShape S₁) labels (length g) (var_agree (length g) S S₁ one.0.agree) e.1 [] s b.1 so.0.2) in
    let S₂ = two.0.shapes in
    let below₂ : AgreeShapes (length g) S₂ S = λ i lt. two.0.agree i (omega (arith, lt, p.laid.longer)) ∙ one.0.agree i lt in
    let rest = lay_all_shaped labels es S₂ g₂ q.laid.tidy two.0.well be (equations_agree (VarShape S) (VarShape S₂) labels (length g) (var_agree (length g) S S₂ below₂) es b.2 so.1) in
    let S₃ = rest.0.shapes in
    let i = (lay e.0 g).1 in
    let j = (lay e.1 g₁).1 in
    let ati : S₃ i ≡ ([] ⇒ s) = rest.0.agree i (omega (arith, p.inside, q.laid.longer)) ∙ two.0.agree i p.inside ∙ one.1 in
    let atj : S₃ j ≡ ([] ⇒ s) = rest.0.agree j q.inside ∙ two.1 in
    (record { shapes = S₃; well = rest.0.well; agree = λ k lt. rest.0.agree k (omega (arith, lt, le)) ∙ below₂ k lt }, (ati ∙ sym atj, rest.1))
