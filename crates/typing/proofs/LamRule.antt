-- The rule of lam: its name is taken out of the entries, and has the type that it had there, or any.
-- Assumes nothing.
use Rattle.std.proofs.Common.{◌≡◌, ℕ, ◌+◌, ◌≤◌, Bool, true, false, cond, [], ◌∷◌, Some, sym, refl, ap, ◌∙◌, subst, ap₂, arith}
use Rattle.syntax.specs.declared.argument.Argument.TheVariants as argument
use Rattle.syntax.specs.declared.kind.Kind.TheVariants.{Lam}
use Rattle.syntax.specs.declared.name.Name as name
use Rattle.typing.specs.Constraints.{Entries, without, type_of, Joined, joined, type_at, constraints}
use Rattle.typing.specs.Forms.{Name, Context, Grounded, Form, same, given, Agrees, Stands}
use Rattle.typing.specs.Heads.{Sort, type}
use Rattle.typing.specs.Rules.{Rule}
use Rattle.typing.specs.Solve.{Problem}
use Rattle.typing.specs.Solved.{Bounded, EntriesBounded, Posed, WellSorted, Satisfies}
use Rattle.typing.specs.Strings.{before, Ahead, Rising, Types}
use Rattle.typing.specs.Terms.{Term, var, fun, fill, Sorted, GroundType}
use Rattle.typing.proofs.Children.{sorts_with, child_stands, children_values}
use Rattle.typing.proofs.Joining.{form_at, splice_rest, Child, joined_bounded, joined_sorted, joined_rising, entries_bounded_more}
use Rattle.typing.proofs.KindRules.{Ruled, fun_sorted, fun_parts, types₁, stands₁}
use Rattle.typing.proofs.Laying.{bounded_more, all_bounded_more}
use Rattle.typing.proofs.NamesOrder.{same_true, before_trans, Unlisted, ahead_unlisted}

without_bounded : (m : ℕ) (n : Name) (es : Entries) → EntriesBounded m es → EntriesBounded m (without n es)
without_bounded m n [] b = tt
without_bounded m n (e ∷ es) b =
    let later = without_bounded m n es b.1 in
    elim (same n e.0) as (λ t. EntriesBounded m (cond t (without n es) (e ∷ without n es))) [ true ↦ later | false ↦ (b.0, later) ]

without_types : (V : ℕ → Sort → Type 0) (labels : ℕ) (n : Name) (es : Entries) → Types V labels es → Types V labels (without n es)
without_types V labels n [] so = tt
without_types V labels n (e ∷ es) so =
    let later = without_types V labels n es so.1 in
    elim (same n e.0) as (λ t. Types V labels (cond t (without n es) (e ∷ without n es))) [ true ↦ later | false ↦ (so.0, later) ]

ahead_more : (m n : Name) (es : Entries) → before m n ≡ true → Ahead n es → Ahead m es
ahead_more m n [] lt a = tt
ahead_more m n (e ∷ es) lt a = before_trans m n e.0 lt a

without_ahead : (m n : Name) (es : Entries) → Rising es → Ahead m es → Ahead m (without n es)
without_ahead m n [] rising a = tt
without_ahead m n (e ∷ es) rising a =
    let later = without_ahead m n es rising.2 (ahead_more m e.0 es a rising.1) in
    elim (same n e.0) as (λ t. Ahead m (cond t (without n es) (e ∷ without n es))) [ true ↦ later | false ↦ a ]

pub without_rising : (n : Name) (es : Entries) → Rising es → Rising (without n es)
without_rising n [] rising = tt
without_rising n (e ∷ es) rising =
    let later = without_rising n es rising.2 in
    elim (same n e.0) as (λ t. Rising (cond t (without n es) (e ∷ without n es))) [ true ↦ later | false ↦ (rising.0, without_ahead e.0 n es rising.2 rising.1, later) ]

type_bounded : (m : ℕ) (n : Name) (es : Entries) (other : Term) → EntriesBounded m es → Bounded m other → Bounded m (type_of n es other)
type_bounded m n [] other b bo = bo
type_bounded m n (e ∷ es) other b bo =
    let later = type_bounded m n es other b.1 bo in
    elim (same n e.0) as (λ t. Bounded m (cond t e.1 (type_of n es other))) [ true ↦ b.0 | false ↦ later ]

type_sorted : (V : ℕ → Sort → Type 0) (labels : ℕ) (n : Name) (es : Entries) (other : Term) → Types V labels es → Sorted V labels [] type other → Sorted V labels [] type (type_of n es other)
type_sorted V labels n [] other so oo = oo
type_sorted V labels n (e ∷ es) other so oo =
    let later = type_sorted V labels n es other so.1 oo in
    elim (same n e.0) as (λ t. Sorted V labels [] type (cond t e.1 (type_of n es other))) [ true ↦ so.0 | false ↦ later ]

-- a name that is given a type
pub given_grounded : (labels : ℕ) (n : Name) (T : Term) (Γ : Context) → GroundType labels T → Grounded labels Γ → Grounded labels (given n T Γ)
given_grounded labels n T Γ type_T ground m A is = by_test (same n m) is
  where
    by_test : (b : Bool) → cond b (Some T) (Γ m) ≡ Some A → GroundType labels A
    by_test true e = let t : T ≡ A = cc in subst (GroundType labels) t type_T
    by_test false e = ground m A e

pub given_same : (n m : Name) (T : Term) (Γ : Context) → same n m ≡ true → given n T Γ m ≡ Some T
given_same n m T Γ is = ap (λ b. cond b (Some T) (Γ m)) is

pub given_other : (n m : Name) (T : Term) (Γ : Context) → same n m ≡ false → given n T Γ m ≡ Γ m
given_other n m T Γ is = ap (λ b. cond b (Some T) (Γ m)) is

module _ (n : Name) (T : Term) (Γ : Context) (ρ : ℕ → Term) where
  agrees_without : (es : Entries) → Agrees ρ es (given n T Γ) → Agrees ρ (without n es) Γ
  agrees_without [] a = tt
  agrees_without (e ∷ es) a = by_test (same n e.0) refl (agrees_without es a.1)
    where
      by_test : (b : Bool) → same n e.0 ≡ b → Agrees ρ (without n es) Γ → Agrees ρ (cond b (without n es) (e ∷ without n es)) Γ
      by_test true is later = later
      by_test false is later = (sym (given_other n e.0 T Γ is) ∙ a.0, later)

  agrees_type : (es : Entries) (other : Term) → Agrees ρ es (given n T Γ) → fill ρ other ≡ T → fill ρ (type_of n es other) ≡ T
  agrees_type [] other a o = o
  agrees_type (e ∷ es) other a o = by_test (same n e.0) refl (agrees_type es other a.1 o)
    where
      by_test : (b : Bool) → same n e.0 ≡ b → fill ρ (type_of n es other) ≡ T → fill ρ (cond b e.1 (type_of n es other)) ≡ T
      by_test true is later = let both : Some (fill ρ e.1) ≡ Some T = sym a.0 ∙ given_same n e.0 T Γ is in cc
      by_test false is later = later

  unlisted_agrees : (es : Entries) → Unlisted n es → Agrees ρ (without n es) Γ → Agrees ρ es (given n T Γ)
  unlisted_agrees [] un a = tt
  unlisted_agrees (e ∷ es) un a =
      let kept : Agrees ρ (e ∷ without n es) Γ = subst (λ b. Agrees ρ (cond b (without n es) (e ∷ without n es)) Γ) un.0 a in
      (given_other n e.0 T Γ un.0 ∙ kept.0, unlisted_agrees es un.1 kept.1)

  agrees_back : (es : Entries) (other : Term) → Rising es → Agrees ρ (without n es) Γ → fill ρ (type_of n es other) ≡ T → Agrees ρ es (given n T Γ)
  agrees_back [] other rising a t = tt
  agrees_back (e ∷ es) other rising a t = by_test (same n e.0) refl a t (agrees_back es other rising.2)
    where
      by_test : (b : Bool) → same n e.0 ≡ b → Agrees ρ (cond b (without n es) (e ∷ without n es)) Γ → fill ρ (cond b e.1 (type_of n es other)) ≡ T → (Agrees ρ (without n es) Γ → fill ρ (type_of n es other) ≡ T → Agrees ρ es (given n T Γ)) → Agrees ρ (e ∷ es) (given n T Γ)
      by_test true is a' t' later =
          let ahead : Ahead n es = subst (λ m. Ahead m es) (sym (same_true n e.0 is)) rising.1 in
          (given_same n e.0 T Γ is ∙ ap Some (sym t'), unlisted_agrees es (ahead_unlisted n es ahead rising.2) a')
      by_test false is a' t' later = (given_other n e.0 T Γ is ∙ a'.0, later a'.1 t')

module _ (labels : ℕ) (F : Form) (C : (j : ℕ) → Child labels (form_at (F ∷ []) j)) (m : name.Name) where
  abbrev J : Joined
  J = joined 0 (F ∷ [])

  abbrev sorts : ℕ → Sort
  sorts = sorts_with labels (F ∷ []) C (λ k. type)

  abbrev argument_type : Term
  argument_type = type_of m.0 J.entries (var J.unknowns)

  abbrev P : Problem
  P = constraints labels Lam (argument.Name m) (joined 0 (F ∷ []))

  posed_lam : Posed P
  posed_lam =
      let b = joined_bounded 0 (F ∷ []) in
      let n = J.unknowns in
      let le : n ≤ n + 1 = omega arith in
      let es = entries_bounded_more n (n + 1) le J.entries b.entries in
      record { equations = all_bounded_more n (n + 1) le J.equations b.equations; entries = without_bounded (n + 1) m.0 J.entries es; result = ((tt, type_bounded (n + 1) m.0 J.entries (var n) es (omega arith)), bounded_more n (n + 1) le (type_at J 0) (b.types 0)) }

  argument_sorted : Sorted (λ k s. sorts k ≡ s) labels [] type argument_type
  argument_sorted = type_sorted (λ k s. sorts k ≡ s) labels m.0 J.entries (var J.unknowns) (joined_sorted labels 0 (F ∷ []) C (λ k. type)).entries (refl, splice_rest 0 (F ∷ []) (λ j. (C j).sorts) (λ k. type) J.unknowns (omega arith))

  abbrev sorted_lam : WellSorted labels P
  sorted_lam =
      let s = joined_sorted labels 0 (F ∷ []) C (λ k. type) in
      record { sorts = sorts; equations = s.equations; entries = without_types (λ k q. sorts k ≡ q) labels m.0 J.entries s.entries; result = fun_sorted (λ k q. sorts k ≡ q) labels argument_type (type_at J 0) argument_sorted (s.types 0) }

  onto_lam : (Γ : Context) (A : Term) → Grounded labels Γ → GroundType labels A → Rule labels Lam (argument.Name m) (λ j. Stands labels (form_at (F ∷ []) j)) Γ A → Satisfies labels P sorts Γ A
  unfolding types₁
  onto_lam Γ A ground type-A rule =
      let T = rule.0 in
      let B = rule.1 in
      let Δ : Context = given m.0 T Γ in
      let v = children_values labels (F ∷ []) C (λ k. type) Δ (types₁ B) (λ k. T) (λ k. rule.2) (stands₁ labels Δ (given_grounded labels m.0 T Γ rule.2 ground) F B rule.3) in
      let arg : fill v.values argument_type ≡ T = agrees_type m.0 T Γ v.values J.entries (var J.unknowns) v.agrees (v.behind J.unknowns (omega arith)) in
      record { values = v.values; sorted = λ k lt. v.sorted k; holds = v.holds; agrees = agrees_without m.0 T Γ v.values J.entries v.agrees; is = rule.4 ∙ sym (ap₂ fun arg (v.types 0 (omega arith))) }

  back_lam : (Γ : Context) (A : Term) → Grounded labels Γ → GroundType labels A → Satisfies labels P sorts Γ A → Rule labels Lam (argument.Name m) (λ j. Stands labels (form_at (F ∷ []) j)) Γ A
  back_lam Γ A ground type-A sat =
      let ρ = sat.values in
      let T = fill ρ argument_type in
      let whole : GroundType labels (fun T (fill ρ (type_at J 0))) = subst (GroundType labels) sat.is type-A in
      let type_T : GroundType labels T = (fun_parts (λ j s. ⊥) labels T (fill ρ (type_at J 0)) whole).0 in
      let agrees = agrees_back m.0 T Γ ρ J.entries (var J.unknowns) (joined_rising labels 0 (F ∷ []) C) sat.agrees refl in
      (T, fill ρ (type_at J 0), type_T, child_stands labels (F ∷ []) C (λ k. type) ρ (given m.0 T Γ) (given_grounded labels m.0 T Γ type_T ground) (λ k less. sat.sorted k (omega (arith, less))) agrees sat.holds 0 (omega arith), sat.is)

  pub lam_ruled : Ruled labels Lam (argument.Name m) (F ∷ [])
  lam_ruled = record { posed = posed_lam; sorted = sorted_lam; onto = onto_lam; back = back_lam }
