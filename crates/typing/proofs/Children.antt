-- The pairs of the children, as values of the joined variables: from values to pairs and back.
-- Assumes nothing.
use Rattle.std.proofs.Common.{◌≡◌, ℕ, zero, suc, ◌+◌, ◌<◌, ◌≤◌, Bool, true, false, cond, List, [], ◌∷◌, length, sym, refl, ap, ◌∙◌, subst, arith}
use Rattle.typing.specs.Constraints.{width, joined, type_at}
use Rattle.typing.specs.Forms.{Context, Grounded, Form, hole_form, Agrees, Stands, entry_variables, form_variables}
use Rattle.typing.specs.Heads.{Sort, type, place}
use Rattle.typing.specs.Solve.{member}
use Rattle.typing.specs.Solved.{Holds}
use Rattle.typing.specs.Terms.{Term, num, absent, fill, variables, Sorted, GroundType}
use Rattle.typing.proofs.Joining.{form_above, form_at, offset, own, splice, splice_own, splice_rest, splice_both, joined_from, Child, joined_onto, joined_back, joined_type}
use Rattle.typing.proofs.Renaming.{Each, each_append, each_map, fill_alike}
use Rattle.typing.proofs.SolvingSorted.{types_unfill, agrees_alike, each_member, each_self}
use Rattle.typing.proofs.Sorting.{fill_sorted, unfill_sorted, each_join}

-- no variables: sorted and ground
abbrev pub Ground : ℕ → Sort → Term → Type 0
Ground labels s t = Sorted (λ j q. ⊥) labels [] s t

-- a ground term of a sort
pub some_term : Sort → Term
some_term type = num
some_term place = absent

pub some_ground : (labels : ℕ) (s : Sort) → Ground labels s (some_term s)
unfolding some_term
some_ground labels type = (refl, refl)
some_ground labels place = (refl, refl)

-- A pair that a form stands for, with a value of its sort for every number.
pub record Valued (labels : ℕ) (F : Form) (C : Child labels F) (Γ : Context) (A : Term) : Type 0 where
  pub values : ℕ → Term
  pub sorted : (k : ℕ) → Ground labels (C.sorts k) (values k)
  pub agrees : Agrees values F.entries Γ
  pub is : A ≡ fill values F.result

pub valued : (labels : ℕ) (F : Form) (C : Child labels F) (Γ : Context) (A : Term) → Stands labels F Γ A → Valued labels F C Γ A
valued labels F C Γ A stands = record { values = complete; sorted = complete_sorted; agrees = agrees_alike stands.values complete Γ F.entries parts.0 stands.agrees; is = stands.is ∙ fill_alike stands.values complete F.result parts.1 }
  where
    V : ℕ → Sort → Type 0
    V k q = C.sorts k ≡ q

    complete : ℕ → Term
    complete k = cond (member k (form_variables F)) (stands.values k) (some_term (C.sorts k))

    one : (k : ℕ) (q r : Sort) → C.sorts k ≡ q → C.sorts k ≡ r → q ≡ r
    one k q r a b = sym a ∙ b

    visible : Each (λ k. (q : Sort) → C.sorts k ≡ q → Ground labels q (stands.values k)) (form_variables F)
    visible = each_join (λ k. (q : Sort) → C.sorts k ≡ q → Ground labels q (stands.values k)) (entry_variables F.entries) (variables F.result)
        (types_unfill (λ k q. C.sorts k ≡ q) labels stands.values one Γ stands.context F.entries C.types stands.agrees)
        (unfill_sorted (λ k q. C.sorts k ≡ q) (λ j s. ⊥) labels stands.values one F.result [] type C.result (subst (λ t. Ground labels type t) stands.is stands.ground))

    complete_sorted : (k : ℕ) → Ground labels (C.sorts k) (complete k)
    complete_sorted k = by_sight (member k (form_variables F)) refl
      where
        by_sight : (b : Bool) → member k (form_variables F) ≡ b → Ground labels (C.sorts k) (cond b (stands.values k) (some_term (C.sorts k)))
        by_sight true is = each_member (λ k. (q : Sort) → C.sorts k ≡ q → Ground labels q (stands.values k)) (form_variables F) k visible is (C.sorts k) refl
        by_sight false is = some_ground labels (C.sorts k)

    alike : Each (λ k. stands.values k ≡ complete k) (form_variables F)
    alike = each_map (λ k. member k (form_variables F) ≡ true) (λ k. stands.values k ≡ complete k) (λ k m. ap (λ b. cond b (stands.values k) (some_term (C.sorts k))) (sym m)) (form_variables F) (each_self (form_variables F))

    parts : Each (λ k. stands.values k ≡ complete k) (entry_variables F.entries) × Each (λ k. stands.values k ≡ complete k) (variables F.result)
    parts = each_append (λ k. stands.values k ≡ complete k) (entry_variables F.entries) (variables F.result) alike

pub stands_from : (labels : ℕ) (F : Form) (C : Child labels F) (Γ : Context) → Grounded labels Γ → (ρ : ℕ → Term) → ((k : ℕ) → k < width F → Ground labels (C.sorts k) (ρ k)) → Agrees ρ F.entries Γ → Stands labels F Γ (fill ρ F.result)
stands_from labels F C Γ ground ρ sorted agrees = record { context = ground; ground = fill_sorted (λ k s. C.sorts k ≡ s) (λ j s. ⊥) (λ k. k < width F) labels ρ (λ k q lt e. subst (λ s. Ground labels s (ρ k)) e (sorted k lt)) F.result [] type (form_above F).1 C.result; values = ρ; agrees = agrees; is = refl }

-- a hole stands for every pair
pub hole_stands : (labels : ℕ) (Γ : Context) → Grounded labels Γ → (A : Term) → GroundType labels A → Stands labels hole_form Γ A
hole_stands labels Γ ground A type-A = record { context = ground; ground = type-A; values = λ k. A; agrees = tt; is = refl }

offset_inside : (w : ℕ) (Fs : List Form) (j : ℕ) → j < length Fs → (k : ℕ) → k < width (form_at Fs j) → offset w Fs j + k < (joined w Fs).unknowns
offset_inside w [] j lt k small = absurd (omega arith)
offset_inside w (F ∷ Fs) zero lt k small = omega (arith, small, joined_from (w + width F) Fs)
offset_inside w (F ∷ Fs) (suc j) lt k small = offset_inside (w + width F) Fs j (omega arith) k small

module _ (labels : ℕ) (Fs : List Form) (C : (j : ℕ) → Child labels (form_at Fs j)) where
  abbrev pub sorts_with : (ℕ → Sort) → ℕ → Sort
  sorts_with rest = splice 0 Fs (λ j. (C j).sorts) rest

  -- sorted values of the joined variables give each child a pair
  pub child_stands : (rest : ℕ → Sort) (ρ : ℕ → Term) (Γ : Context) → Grounded labels Γ → ((k : ℕ) → k < (joined 0 Fs).unknowns → Ground labels (sorts_with rest k) (ρ k)) → Agrees ρ (joined 0 Fs).entries Γ → Holds ρ (joined 0 Fs).equations → (j : ℕ) → j < length Fs → Stands labels (form_at Fs j) Γ (fill ρ (type_at (joined 0 Fs) j))
  child_stands rest ρ Γ ground sorted agrees holds j lt =
      subst (Stands labels (form_at Fs j) Γ) (sym (joined_type ρ 0 Fs j lt))
      (stands_from labels (form_at Fs j) (C j) Γ ground (own ρ 0 Fs j) (λ k small. subst (λ s. Ground labels s (own ρ 0 Fs j k)) (splice_own 0 Fs (λ i. (C i).sorts) rest j lt k small) (sorted (offset 0 Fs j + k) (offset_inside 0 Fs j lt k small))) (joined_onto ρ Γ 0 Fs agrees holds j lt))

  -- Values of all joined variables, which give each child its pair.
  pub record Values (rest : ℕ → Sort) (Γ : Context) (As : ℕ → Term) (beyond : ℕ → Term) : Type 0 where
    pub values : ℕ → Term
    pub sorted : (k : ℕ) → Ground labels (sorts_with rest k) (values k)
    pub agrees : Agrees values (joined 0 Fs).entries Γ
    pub holds : Holds values (joined 0 Fs).equations
    pub types : (j : ℕ) → j < length Fs → fill values (type_at (joined 0 Fs) j) ≡ As j
    pub behind : (k : ℕ) → (joined 0 Fs).unknowns ≤ k → values k ≡ beyond k

  pub children_values : (rest : ℕ → Sort) (Γ : Context) (As : ℕ → Term) (beyond : ℕ → Term) → ((k : ℕ) → Ground labels (rest k) (beyond k)) → ((j : ℕ) → Stands labels (form_at Fs j) Γ (As j)) → Values rest Γ As beyond
  children_values rest Γ As beyond ground stands = record { values = ρ; sorted = splice_both (Ground labels) 0 Fs (λ j. (C j).sorts) rest (λ j. (each j).values) beyond (λ j k. (each j).sorted k) ground; agrees = both.0; holds = both.1; types = types; behind = λ k le. splice_rest 0 Fs (λ j. (each j).values) beyond k le }
    where
      each : (j : ℕ) → Valued labels (form_at Fs j) (C j) Γ (As j)
      each j = valued labels (form_at Fs j) (C j) Γ (As j) (stands j)

      ρ : ℕ → Term
      ρ = splice 0 Fs (λ j. (each j).values) beyond

      alike : (j : ℕ) → j < length Fs → (k : ℕ) → k < width (form_at Fs j) → (each j).values k ≡ own ρ 0 Fs j k
      alike j lt k small = sym (splice_own 0 Fs (λ i. (each i).values) beyond j lt k small)

      both : Agrees ρ (joined 0 Fs).entries Γ × Holds ρ (joined 0 Fs).equations
      both = joined_back ρ Γ 0 Fs (λ j lt. agrees_alike (each j).values (own ρ 0 Fs j) Γ (form_at Fs j).entries (each_map (λ k. k < width (form_at Fs j)) (λ k. (each j).values k ≡ own ρ 0 Fs j k) (alike j lt) (entry_variables (form_at Fs j).entries) (form_above (form_at Fs j)).0) (each j).agrees)

      types : (j : ℕ) → j < length Fs → fill ρ (type_at (joined 0 Fs) j) ≡ As j
      types j lt =
          joined_type ρ 0 Fs j lt ∙ sym (fill_alike (each j).values (own ρ 0 Fs j) (form_at Fs j).result (each_map (λ k. k < width (form_at Fs j)) (λ k. (each j).values k ≡ own ρ 0 Fs j k) (alike j lt) (variables (form_at Fs j).result) (form_above (form_at Fs j)).1)) ∙ sym (each j).is
