-- For each kind, the solutions of its constraints are the pairs that satisfy its rule over the pairs
-- of the children. Assumes nothing.
use Rattle.std.proofs.Common.{◌≡◌, ℕ, zero, suc, ◌+◌, ◌-◌, ◌<◌, ◌≤◌, true, false, cond, eqb, List, [], ◌∷◌, map, length, get_or, set, replicate, Some, sym, refl, ap, ◌∙◌, subst, ap₂, arith}
use lib.ListN.{length-map}
use Rattle.std.proofs.lemmas.List.{set-get_or, map-set, get_or-set_same}
use Rattle.std.proofs.lemmas.Bool.{eq-eqb, ne_eqb}
use Rattle.syntax.specs.Labels.{label_code}
use Rattle.syntax.specs.declared.argument.Argument.{Argument}
use Rattle.syntax.specs.declared.argument.Argument.TheVariants as argument
use Rattle.syntax.specs.declared.kind.Kind.{Kind}
use Rattle.syntax.specs.declared.kind.Kind.TheVariants.{Hole, Num, Var, Nil, Fix, Sel, App, Add, Ext, Ifz}
use Rattle.syntax.specs.declared.label.Label.{Label}
use Rattle.syntax.specs.declared.name.Name as name
use Rattle.typing.specs.Constraints.{fresh, Joined, joined, type_at, posed, constraints}
use Rattle.typing.specs.Forms.{Context, Grounded, Form, Stands}
use Rattle.typing.specs.Heads.{Sort, type, place}
use Rattle.typing.specs.Rules.{Rule}
use Rattle.typing.specs.Solve.{Equations}
use Rattle.typing.specs.Solved.{Holds, Bounded, AllBounded, Posed, EquationsSorted, WellSorted, Satisfies}
use Rattle.typing.specs.Terms.{Term, var, num, fun, rec, absent, present, fill, Sorted, GroundType}
use Rattle.typing.proofs.Children.{Ground, hole_stands, sorts_with, child_stands, Values, children_values}
use Rattle.typing.proofs.Joining.{form_at, splice_rest, Child, joined_bounded, joined_sorted, holds_append, holds_parts, all_bounded_append, equations_append, entries_bounded_more}
use Rattle.typing.proofs.Laying.{bounded_more, all_bounded_more}
use Rattle.typing.proofs.Records.{fill_rec, EachSorted, rec_sorted, rec_places, places_long, place_at, place_set, present_sorted, absent_places, absent_filled, fresh_values, fresh_sorted, fresh_long, EachBounded, fresh_bounded, set_bounded, applied_bounded, replicate_bounded}

pub record Ruled (labels : ℕ) (k : Kind) (a : Argument) (Fs : List Form) : Type 0 where
  pub posed : Posed (constraints labels k a (joined 0 Fs))
  pub sorted : WellSorted labels (constraints labels k a (joined 0 Fs))
  pub onto : (Γ : Context) (A : Term) → Grounded labels Γ → GroundType labels A → Rule labels k a (λ j. Stands labels (form_at Fs j)) Γ A → Satisfies labels (constraints labels k a (joined 0 Fs)) sorted.sorts Γ A
  pub back : (Γ : Context) (A : Term) → Grounded labels Γ → GroundType labels A → Satisfies labels (constraints labels k a (joined 0 Fs)) sorted.sorts Γ A → Rule labels k a (λ j. Stands labels (form_at Fs j)) Γ A

-- a type built of types
pub fun_sorted : (V : ℕ → Sort → Type 0) (labels : ℕ) (a b : Term) → Sorted V labels [] type a → Sorted V labels [] type b → Sorted V labels [] type (fun a b)
fun_sorted V labels a b sa sb = (type, (type, (refl, refl), sa), sb)

pub fun_parts : (V : ℕ → Sort → Type 0) (labels : ℕ) (a b : Term) → Sorted V labels [] type (fun a b) → Sorted V labels [] type a × Sorted V labels [] type b
fun_parts V labels a b so =
    let e : type ∷ type ∷ [] ≡ so.1.0 ∷ so.0 ∷ [] = so.1.1.0 in
    let ea : type ≡ so.1.0 = cc in
    let eb : type ≡ so.0 = cc in
    (subst (λ s. Sorted V labels [] s a) (sym ea) so.1.2, subst (λ s. Sorted V labels [] s b) (sym eb) so.2)

-- the pairs of one, two and three children, with holes behind them
unfoldable pub types₁ : Term → ℕ → Term
types₁ A zero = A
types₁ A (suc j) = num

types₂ : Term → Term → ℕ → Term
types₂ A B zero = A
types₂ A B (suc j) = types₁ B j

types₃ : Term → Term → Term → ℕ → Term
types₃ A B D zero = A
types₃ A B D (suc j) = types₂ B D j

num_ground : (labels : ℕ) → GroundType labels num
num_ground labels = (refl, refl)

pub stands₁ : (labels : ℕ) (Γ : Context) → Grounded labels Γ → (F : Form) (A : Term) → Stands labels F Γ A → (j : ℕ) → Stands labels (form_at (F ∷ []) j) Γ (types₁ A j)
unfolding types₁
stands₁ labels Γ ground F A s zero = s
stands₁ labels Γ ground F A s (suc j) = hole_stands labels Γ ground num (num_ground labels)

stands₂ : (labels : ℕ) (Γ : Context) → Grounded labels Γ → (F G : Form) (A B : Term) → Stands labels F Γ A → Stands labels G Γ B → (j : ℕ) → Stands labels (form_at (F ∷ G ∷ []) j) Γ (types₂ A B j)
unfolding types₂
stands₂ labels Γ ground F G A B s t zero = s
stands₂ labels Γ ground F G A B s t (suc j) = stands₁ labels Γ ground G B t j

stands₃ : (labels : ℕ) (Γ : Context) → Grounded labels Γ → (F G H : Form) (A B D : Term) → Stands labels F Γ A → Stands labels G Γ B → Stands labels H Γ D → (j : ℕ) → Stands labels (form_at (F ∷ G ∷ H ∷ []) j) Γ (types₃ A B D j)
unfolding types₃
stands₃ labels Γ ground F G H A B D s t u zero = s
stands₃ labels Γ ground F G H A B D s t u (suc j) = stands₂ labels Γ ground G H B D t u j

module _ (labels : ℕ) (Fs : List Form) (C : (j : ℕ) → Child labels (form_at Fs j)) where
  abbrev J : Joined
  J = joined 0 Fs

  abbrev V : (ℕ → Sort) → ℕ → Sort → Type 0
  V rest k s = sorts_with labels Fs C rest k ≡ s

  -- a variable behind those of the children
  fresh_sort : (rest : ℕ → Sort) (k : ℕ) → J.unknowns ≤ k → sorts_with labels Fs C rest k ≡ rest k
  fresh_sort rest k le = splice_rest 0 Fs (λ j. (C j).sorts) rest k le

  join_posed : (extra : ℕ) (es : Equations) (t : Term) → AllBounded (J.unknowns + extra) es → Bounded (J.unknowns + extra) t → Posed (posed J extra es t)
  join_posed extra es t be bt =
      let b = joined_bounded 0 Fs in
      let n = J.unknowns in
      let le : n ≤ n + extra = omega arith in
      record { equations = all_bounded_append (n + extra) es J.equations be (all_bounded_more n (n + extra) le J.equations b.equations); entries = entries_bounded_more n (n + extra) le J.entries b.entries; result = bt }

  abbrev join_sorted : (rest : ℕ → Sort) (extra : ℕ) (es : Equations) (t : Term) → EquationsSorted (V rest) labels es → Sorted (V rest) labels [] type t → WellSorted labels (posed J extra es t)
  join_sorted rest extra es t se st =
      let s = joined_sorted labels 0 Fs C rest in
      record { sorts = sorts_with labels Fs C rest; equations = equations_append (V rest) labels es J.equations se s.equations; entries = s.entries; result = st }

  type_bounded : (extra j : ℕ) → Bounded (J.unknowns + extra) (type_at J j)
  type_bounded extra j = bounded_more J.unknowns (J.unknowns + extra) (omega arith) (type_at J j) ((joined_bounded 0 Fs).types j)

  type_sorted : (rest : ℕ → Sort) (j : ℕ) → Sorted (V rest) labels [] type (type_at J j)
  type_sorted rest j = (joined_sorted labels 0 Fs C rest).types j

  join_satisfies : (rest : ℕ → Sort) (extra : ℕ) (es : Equations) (t : Term) (Γ : Context) (As beyond : ℕ → Term) (v : Values labels Fs C rest Γ As beyond) (A : Term) → Holds v.values es → A ≡ fill v.values t → Satisfies labels (posed J extra es t) (sorts_with labels Fs C rest) Γ A
  join_satisfies rest extra es t Γ As beyond v A h is = record { values = v.values; sorted = λ k lt. v.sorted k; holds = holds_append v.values es J.equations h v.holds; agrees = v.agrees; is = is }

  join_child : (rest : ℕ → Sort) (extra : ℕ) (es : Equations) (t : Term) (Γ : Context) (A : Term) → Grounded labels Γ → (sat : Satisfies labels (posed J extra es t) (sorts_with labels Fs C rest) Γ A) → (j : ℕ) → j < length Fs → Stands labels (form_at Fs j) Γ (fill sat.values (type_at J j))
  join_child rest extra es t Γ A ground sat j lt =
      child_stands labels Fs C rest sat.values Γ ground (λ k less. sat.sorted k (omega (arith, less))) sat.agrees (holds_parts sat.values es J.equations sat.holds).1 j lt

  join_holds : (rest : ℕ → Sort) (extra : ℕ) (es : Equations) (t : Term) (Γ : Context) (A : Term) → (sat : Satisfies labels (posed J extra es t) (sorts_with labels Fs C rest) Γ A) → Holds sat.values es
  join_holds rest extra es t Γ A sat = (holds_parts sat.values es J.equations sat.holds).0

abbrev all_types : ℕ → Sort
all_types k = type

abbrev all_places : ℕ → Sort
all_places k = place

-- leaves
module _ (labels : ℕ) where
  pub hole_ruled : (a : Argument) → Ruled labels Hole a []
  hole_ruled a = record { posed = record { equations = tt; entries = tt; result = omega arith }; sorted = record { sorts = λ k. type; equations = tt; entries = tt; result = (refl, refl) }; onto = λ Γ A ground type-A rule. record { values = λ k. A; sorted = λ k lt. type-A; holds = tt; agrees = tt; is = refl }; back = λ Γ A ground type-A sat. type-A }

  pub num_ruled : (a : Argument) → Ruled labels Num a []
  num_ruled a = record { posed = record { equations = tt; entries = tt; result = tt }; sorted = record { sorts = λ k. type; equations = tt; entries = tt; result = (refl, refl) }; onto = λ Γ A ground type-A rule. record { values = λ k. num; sorted = λ k lt. num_ground labels; holds = tt; agrees = tt; is = rule }; back = λ Γ A ground type-A sat. sat.is }

  pub var_ruled : (n : name.Name) → Ruled labels Var (argument.Name n) []
  var_ruled n = record { posed = record { equations = tt; entries = (omega arith, tt); result = omega arith }; sorted = record { sorts = λ k. type; equations = tt; entries = ((refl, refl), tt); result = (refl, refl) }; onto = λ Γ A ground type-A rule. record { values = λ k. A; sorted = λ k lt. type-A; holds = tt; agrees = (rule, tt); is = refl }; back = λ Γ A ground type-A sat. sat.agrees.0 ∙ ap Some (sym sat.is) }

  nil_filled : (ρ : ℕ → Term) → fill ρ (rec (replicate labels absent)) ≡ rec (replicate labels absent)
  nil_filled ρ = fill_rec ρ (replicate labels absent) ∙ ap rec (absent_filled ρ labels)

  pub nil_ruled : (a : Argument) → Ruled labels Nil a []
  nil_ruled a = record { posed = record { equations = tt; entries = tt; result = applied_bounded _ _ (replicate labels absent) tt (replicate_bounded _ labels) }; sorted = record { sorts = λ k. type; equations = tt; entries = tt; result = rec_sorted _ labels (replicate labels absent) (absent_places _ labels labels) }; onto = λ Γ A ground type-A rule. record { values = λ k. num; sorted = λ k lt. num_ground labels; holds = tt; agrees = tt; is = rule ∙ sym (nil_filled (λ k. num)) }; back = λ Γ A ground type-A sat. sat.is ∙ nil_filled sat.values }

-- two children and three, whose own variables all are types
module _ (labels : ℕ) (F G : Form) (C : (j : ℕ) → Child labels (form_at (F ∷ G ∷ []) j)) where
  abbrev J₂ : Joined
  J₂ = joined 0 (F ∷ G ∷ [])

  pub app_ruled : (a : Argument) → Ruled labels App a (F ∷ G ∷ [])
  unfolding types₂ types₁
  app_ruled a = record { posed = join_posed labels (F ∷ G ∷ []) C 1 es w ((type_bounded labels (F ∷ G ∷ []) C 1 0, (((tt, type_bounded labels (F ∷ G ∷ []) C 1 1), omega arith)), tt)) (omega arith); sorted = join_sorted labels (F ∷ G ∷ []) C all_types 1 es w ((type, type_sorted labels (F ∷ G ∷ []) C all_types 0, fun_sorted _ labels (type_at J₂ 1) w (type_sorted labels (F ∷ G ∷ []) C all_types 1) w_sorted), tt) w_sorted; onto = onto; back = back }
    where
      w : Term
      w = var J₂.unknowns

      es : Equations
      es = (type_at J₂ 0, fun (type_at J₂ 1) w) ∷ []

      w_sorted : Sorted (V labels (F ∷ G ∷ []) C all_types) labels [] type w
      w_sorted = (refl, fresh_sort labels (F ∷ G ∷ []) C all_types J₂.unknowns (omega arith))

      onto : (Γ : Context) (A : Term) → Grounded labels Γ → GroundType labels A → Rule labels App a (λ j. Stands labels (form_at (F ∷ G ∷ []) j)) Γ A → Satisfies labels (posed J₂ 1 es w) (sorts_with labels (F ∷ G ∷ []) C all_types) Γ A
      onto Γ A ground type-A rule =
          let P = rule.0 in
          let v = children_values labels (F ∷ G ∷ []) C all_types Γ (types₂ (fun P A) P) (λ k. A) (λ k. type-A) (stands₂ labels Γ ground F G (fun P A) P rule.1 rule.2) in
          let last : v.values J₂.unknowns ≡ A = v.behind J₂.unknowns (omega arith) in
          join_satisfies labels (F ∷ G ∷ []) C all_types 1 es w Γ (types₂ (fun P A) P) (λ k. A) v A (v.types 0 (omega arith) ∙ sym (ap₂ fun (v.types 1 (omega arith)) last), tt) (sym last)

      back : (Γ : Context) (A : Term) → Grounded labels Γ → GroundType labels A → Satisfies labels (posed J₂ 1 es w) (sorts_with labels (F ∷ G ∷ []) C all_types) Γ A → Rule labels App a (λ j. Stands labels (form_at (F ∷ G ∷ []) j)) Γ A
      back Γ A ground type-A sat =
          let h = join_holds labels (F ∷ G ∷ []) C all_types 1 es w Γ A sat in
          let child = join_child labels (F ∷ G ∷ []) C all_types 1 es w Γ A ground sat in
          let e : fill sat.values (type_at J₂ 0) ≡ fun (fill sat.values (type_at J₂ 1)) A = h.0 ∙ ap (fun (fill sat.values (type_at J₂ 1))) (sym sat.is) in
          (fill sat.values (type_at J₂ 1), subst (Stands labels F Γ) e (child 0 (omega arith)), child 1 (omega arith))

  pub add_ruled : (a : Argument) → Ruled labels Add a (F ∷ G ∷ [])
  unfolding types₂ types₁
  add_ruled a = record { posed = join_posed labels (F ∷ G ∷ []) C 0 es num ((type_bounded labels (F ∷ G ∷ []) C 0 0, tt, (type_bounded labels (F ∷ G ∷ []) C 0 1, tt, tt))) tt; sorted = join_sorted labels (F ∷ G ∷ []) C all_types 0 es num ((type, type_sorted labels (F ∷ G ∷ []) C all_types 0, (refl, refl)), ((type, type_sorted labels (F ∷ G ∷ []) C all_types 1, (refl, refl)), tt)) (refl, refl); onto = onto; back = back }
    where
      es : Equations
      es = (type_at J₂ 0, num) ∷ (type_at J₂ 1, num) ∷ []

      onto : (Γ : Context) (A : Term) → Grounded labels Γ → GroundType labels A → Rule labels Add a (λ j. Stands labels (form_at (F ∷ G ∷ []) j)) Γ A → Satisfies labels (posed J₂ 0 es num) (sorts_with labels (F ∷ G ∷ []) C all_types) Γ A
      onto Γ A ground type-A rule =
          let v = children_values labels (F ∷ G ∷ []) C all_types Γ (types₂ num num) (λ k. num) (λ k. num_ground labels) (stands₂ labels Γ ground F G num num rule.0 rule.1) in
          join_satisfies labels (F ∷ G ∷ []) C all_types 0 es num Γ (types₂ num num) (λ k. num) v A (v.types 0 (omega arith), (v.types 1 (omega arith), tt)) rule.2

      back : (Γ : Context) (A : Term) → Grounded labels Γ → GroundType labels A → Satisfies labels (posed J₂ 0 es num) (sorts_with labels (F ∷ G ∷ []) C all_types) Γ A → Rule labels Add a (λ j. Stands labels (form_at (F ∷ G ∷ []) j)) Γ A
      back Γ A ground type-A sat =
          let h = join_holds labels (F ∷ G ∷ []) C all_types 0 es num Γ A sat in
          let child = join_child labels (F ∷ G ∷ []) C all_types 0 es num Γ A ground sat in
          (subst (Stands labels F Γ) h.0 (child 0 (omega arith)), subst (Stands labels G Γ) h.1.0 (child 1 (omega arith)), sat.is)

module _ (labels : ℕ) (F G H : Form) (C : (j : ℕ) → Child labels (form_at (F ∷ G ∷ H ∷ []) j)) where
  abbrev J₃ : Joined
  J₃ = joined 0 (F ∷ G ∷ H ∷ [])

  pub ifz_ruled : (a : Argument) → Ruled labels Ifz a (F ∷ G ∷ H ∷ [])
  unfolding types₃ types₂ types₁
  ifz_ruled a = record { posed = join_posed labels Fs C 0 es (type_at J₃ 1) ((type_bounded labels Fs C 0 0, tt, (type_bounded labels Fs C 0 1, type_bounded labels Fs C 0 2, tt))) (type_bounded labels Fs C 0 1); sorted = join_sorted labels Fs C all_types 0 es (type_at J₃ 1) ((type, type_sorted labels Fs C all_types 0, (refl, refl)), ((type, type_sorted labels Fs C all_types 1, type_sorted labels Fs C all_types 2), tt)) (type_sorted labels Fs C all_types 1); onto = onto; back = back }
    where
      Fs : List Form
      Fs = F ∷ G ∷ H ∷ []

      es : Equations
      es = (type_at J₃ 0, num) ∷ (type_at J₃ 1, type_at J₃ 2) ∷ []

      onto : (Γ : Context) (A : Term) → Grounded labels Γ → GroundType labels A → Rule labels Ifz a (λ j. Stands labels (form_at (F ∷ G ∷ H ∷ []) j)) Γ A → Satisfies labels (posed J₃ 0 es (type_at J₃ 1)) (sorts_with labels (F ∷ G ∷ H ∷ []) C all_types) Γ A
      onto Γ A ground type-A rule =
          let v = children_values labels (F ∷ G ∷ H ∷ []) C all_types Γ (types₃ num A A) (λ k. num) (λ k. num_ground labels) (stands₃ labels Γ ground F G H num A A rule.0 rule.1 rule.2) in
          join_satisfies labels (F ∷ G ∷ H ∷ []) C all_types 0 es (type_at J₃ 1) Γ (types₃ num A A) (λ k. num) v A (v.types 0 (omega arith), (v.types 1 (omega arith) ∙ sym (v.types 2 (omega arith)), tt)) (sym (v.types 1 (omega arith)))

      back : (Γ : Context) (A : Term) → Grounded labels Γ → GroundType labels A → Satisfies labels (posed J₃ 0 es (type_at J₃ 1)) (sorts_with labels (F ∷ G ∷ H ∷ []) C all_types) Γ A → Rule labels Ifz a (λ j. Stands labels (form_at (F ∷ G ∷ H ∷ []) j)) Γ A
      back Γ A ground type-A sat =
          let h = join_holds labels (F ∷ G ∷ H ∷ []) C all_types 0 es (type_at J₃ 1) Γ A sat in
          let child = join_child labels (F ∷ G ∷ H ∷ []) C all_types 0 es (type_at J₃ 1) Γ A ground sat in
          (subst (Stands labels F Γ) h.0 (child 0 (omega arith)), subst (Stands labels G Γ) (sym sat.is) (child 1 (omega arith)), subst (Stands labels H Γ) (sym h.1.0 ∙ sym sat.is) (child 2 (omega arith)))

-- extending a record: a variable for each place
module _ (labels : ℕ) (F G : Form) (C : (j : ℕ) → Child labels (form_at (F ∷ G ∷ []) j)) (l : Label) where
  abbrev JE : Joined
  JE = joined 0 (F ∷ G ∷ [])

  pub ext_ruled : Ruled labels Ext (argument.Label l) (F ∷ G ∷ [])
  unfolding types₂ types₁
  ext_ruled = record { posed = join_posed labels Fs C labels es t (type_bounded labels Fs C labels 0, applied_bounded _ _ places tt places_bounded, tt) (applied_bounded _ _ (set places (label_code l) (present (type_at JE 1))) tt (set_bounded _ places (label_code l) (present (type_at JE 1)) places_bounded (tt, type_bounded labels Fs C labels 1))); sorted = join_sorted labels Fs C all_places labels es t ((type, type_sorted labels Fs C all_places 0, rec_sorted _ labels places places_sorted), tt) (rec_sorted _ labels (set places (label_code l) (present (type_at JE 1))) (place_set _ labels labels places places_sorted (label_code l) (present (type_at JE 1)) (present_sorted _ labels (type_at JE 1) (type_sorted labels Fs C all_places 1)))); onto = onto; back = back }
    where
      Fs : List Form
      Fs = F ∷ G ∷ []

      places : List Term
      places = fresh labels JE.unknowns

      t : Term
      t = rec (set places (label_code l) (present (type_at JE 1)))

      es : Equations
      es = (type_at JE 0, rec places) ∷ []

      places_bounded : EachBounded (JE.unknowns + labels) places
      places_bounded = fresh_bounded (JE.unknowns + labels) labels JE.unknowns (omega arith)

      places_sorted : EachSorted (V labels Fs C all_places) labels (replicate labels place) places
      places_sorted = fresh_sorted (V labels Fs C all_places) labels labels JE.unknowns (λ i lt. fresh_sort labels Fs C all_places (JE.unknowns + i) (omega arith))

      -- the type that is made, under some values
      filled_set : (ρ : ℕ → Term) (ps : List Term) → map (fill ρ) places ≡ ps → fill ρ t ≡ rec (set ps (label_code l) (present (fill ρ (type_at JE 1))))
      filled_set ρ ps e =
          fill_rec ρ (set places (label_code l) (present (type_at JE 1))) ∙ ap rec (map-set (fill ρ) places (label_code l) (present (type_at JE 1)) ∙ ap (λ xs. set xs (label_code l) (present (fill ρ (type_at JE 1)))) e)

      onto : (Γ : Context) (A : Term) → Grounded labels Γ → GroundType labels A → Rule labels Ext (argument.Label l) (λ j. Stands labels (form_at (F ∷ G ∷ []) j)) Γ A → Satisfies labels (posed JE labels es t) (sorts_with labels (F ∷ G ∷ []) C all_places) Γ A
      onto Γ A ground type-A rule =
          let ps = rule.0 in
          let P = rule.1 in
          let each = rec_places (λ j s. ⊥) labels ps rule.2.ground in
          let beyond : ℕ → Term = λ k. get_or ps (k - JE.unknowns) absent in
          let v = children_values labels (F ∷ G ∷ []) C all_places Γ (types₂ (rec ps) P) beyond (λ k. place_at (λ j s. ⊥) labels labels ps each (k - JE.unknowns)) (stands₂ labels Γ ground F G (rec ps) P rule.2 rule.3) in
          let values : map (fill v.values) places ≡ ps = fresh_values v.values labels JE.unknowns ps (places_long (λ j s. ⊥) labels labels ps each) (λ i lt. v.behind (JE.unknowns + i) (omega arith) ∙ ap (λ k. get_or ps k absent) (omega arith)) in
          join_satisfies labels (F ∷ G ∷ []) C all_places labels es t Γ (types₂ (rec ps) P) beyond v A (v.types 0 (omega arith) ∙ sym (fill_rec v.values places ∙ ap rec values), tt) (rule.4 ∙ sym (filled_set v.values ps values ∙ ap (λ x. rec (set ps (label_code l) (present x))) (v.types 1 (omega arith))))

      back : (Γ : Context) (A : Term) → Grounded labels Γ → GroundType labels A → Satisfies labels (posed JE labels es t) (sorts_with labels (F ∷ G ∷ []) C all_places) Γ A → Rule labels Ext (argument.Label l) (λ j. Stands labels (form_at (F ∷ G ∷ []) j)) Γ A
      back Γ A ground type-A sat =
          let h = join_holds labels (F ∷ G ∷ []) C all_places labels es t Γ A sat in
          let child = join_child labels (F ∷ G ∷ []) C all_places labels es t Γ A ground sat in
          let ps = map (fill sat.values) places in
          (ps, fill sat.values (type_at JE 1), subst (Stands labels F Γ) (h.0 ∙ fill_rec sat.values places) (child 0 (omega arith)), child 1 (omega arith), sat.is ∙ filled_set sat.values ps refl)

module _ (labels : ℕ) (F : Form) (C : (j : ℕ) → Child labels (form_at (F ∷ []) j)) where
  abbrev J₁ : Joined
  J₁ = joined 0 (F ∷ [])

  pub fix_ruled : (a : Argument) → Ruled labels Fix a (F ∷ [])
  unfolding types₁
  fix_ruled a = record { posed = join_posed labels (F ∷ []) C 1 es w (type_bounded labels (F ∷ []) C 1 0, ((tt, omega arith), omega arith), tt) (omega arith); sorted = join_sorted labels (F ∷ []) C all_types 1 es w ((type, type_sorted labels (F ∷ []) C all_types 0, fun_sorted (V labels (F ∷ []) C all_types) labels w w w_sorted w_sorted), tt) w_sorted; onto = onto; back = back }
    where
      w : Term
      w = var J₁.unknowns

      es : Equations
      es = (type_at J₁ 0, fun w w) ∷ []

      w_sorted : Sorted (V labels (F ∷ []) C all_types) labels [] type w
      w_sorted = (refl, fresh_sort labels (F ∷ []) C all_types J₁.unknowns (omega arith))

      onto : (Γ : Context) (A : Term) → Grounded labels Γ → GroundType labels A → Rule labels Fix a (λ j. Stands labels (form_at (F ∷ []) j)) Γ A → Satisfies labels (posed J₁ 1 es w) (sorts_with labels (F ∷ []) C all_types) Γ A
      onto Γ A ground type-A rule =
          let v = children_values labels (F ∷ []) C all_types Γ (types₁ (fun A A)) (λ k. A) (λ k. type-A) (stands₁ labels Γ ground F (fun A A) rule) in
          let last : v.values J₁.unknowns ≡ A = v.behind J₁.unknowns (omega arith) in
          join_satisfies labels (F ∷ []) C all_types 1 es w Γ (types₁ (fun A A)) (λ k. A) v A (v.types 0 (omega arith) ∙ sym (ap (λ x. fun x x) last), tt) (sym last)

      back : (Γ : Context) (A : Term) → Grounded labels Γ → GroundType labels A → Satisfies labels (posed J₁ 1 es w) (sorts_with labels (F ∷ []) C all_types) Γ A → Rule labels Fix a (λ j. Stands labels (form_at (F ∷ []) j)) Γ A
      back Γ A ground type-A sat =
          let h = join_holds labels (F ∷ []) C all_types 1 es w Γ A sat in
          let child = join_child labels (F ∷ []) C all_types 1 es w Γ A ground sat in
          subst (Stands labels F Γ) (h.0 ∙ ap (λ x. fun x x) (sym sat.is)) (child 0 (omega arith))

  module _ (l : Label) (in-range : label_code l < labels) where
    pub sel_ruled : Ruled labels Sel (argument.Label l) (F ∷ [])
    unfolding types₁
    sel_ruled = record { posed = join_posed labels (F ∷ []) C (labels + 1) es w (type_bounded labels (F ∷ []) C (labels + 1) 0, applied_bounded _ _ (set places (label_code l) (present w)) tt (set_bounded _ places (label_code l) (present w) (fresh_bounded (J₁.unknowns + (labels + 1)) labels (J₁.unknowns + 1) (omega arith)) (tt, omega arith)), tt) (omega arith); sorted = join_sorted labels (F ∷ []) C sorts (labels + 1) es w ((type, type_sorted labels (F ∷ []) C sorts 0, rec_sorted VS labels (set places (label_code l) (present w)) (place_set VS labels labels places places_sorted (label_code l) (present w) (present_sorted VS labels w w_sorted))), tt) w_sorted; onto = onto; back = back }
      where
        w : Term
        w = var J₁.unknowns

        places : List Term
        places = fresh labels (J₁.unknowns + 1)

        es : Equations
        es = (type_at J₁ 0, rec (set places (label_code l) (present w))) ∷ []

        sorts : ℕ → Sort
        sorts k = cond (eqb k J₁.unknowns) type place

        VS : ℕ → Sort → Type 0
        VS k s = sorts_with labels (F ∷ []) C sorts k ≡ s

        w_sorted : Sorted VS labels [] type w
        w_sorted = (refl, fresh_sort labels (F ∷ []) C sorts J₁.unknowns (omega arith) ∙ ap (λ b. cond b type place) (eq-eqb J₁.unknowns J₁.unknowns refl))

        places_sorted : EachSorted VS labels (replicate labels place) places
        places_sorted = fresh_sorted VS labels labels (J₁.unknowns + 1) (λ i lt. fresh_sort labels (F ∷ []) C sorts (J₁.unknowns + 1 + i) (omega arith) ∙ ap (λ b. cond b type place) (ne_eqb (J₁.unknowns + 1 + i) J₁.unknowns (λ e. omega (arith, e))))

        -- the record that is asked for, under some values
        filled_set : (ρ : ℕ → Term) (ps : List Term) (A : Term) → map (fill ρ) places ≡ ps → ρ J₁.unknowns ≡ A → fill ρ (rec (set places (label_code l) (present w))) ≡ rec (set ps (label_code l) (present A))
        filled_set ρ ps A e last =
            fill_rec ρ (set places (label_code l) (present w)) ∙ ap rec (map-set (fill ρ) places (label_code l) (present w) ∙ ap₂ (λ (xs : List Term) (x : Term). set xs (label_code l) (present x)) e last)

        onto : (Γ : Context) (A : Term) → Grounded labels Γ → GroundType labels A → Rule labels Sel (argument.Label l) (λ j. Stands labels (form_at (F ∷ []) j)) Γ A → Satisfies labels (posed J₁ (labels + 1) es w) (sorts_with labels (F ∷ []) C sorts) Γ A
        onto Γ A ground type-A rule =
            let ps = rule.0 in
            let n = J₁.unknowns in
            let each = rec_places (λ j s. ⊥) labels ps rule.1.ground in
            let beyond : ℕ → Term = λ k. cond (eqb k J₁.unknowns) A (get_or ps (k - (J₁.unknowns + 1)) absent) in
            let sorted : (k : ℕ) → Ground labels (sorts k) (beyond k) = λ k. elim (eqb k J₁.unknowns) as (λ b. Ground labels (cond b type place) (cond b A (get_or ps (k - (J₁.unknowns + 1)) absent))) [ true ↦ type-A | false ↦ place_at (λ j s. ⊥) labels labels ps each (k - (J₁.unknowns + 1)) ] in
            let v = children_values labels (F ∷ []) C sorts Γ (types₁ (rec ps)) beyond sorted (stands₁ labels Γ ground F (rec ps) rule.1) in
            let last : v.values J₁.unknowns ≡ A = v.behind J₁.unknowns (omega arith) ∙ ap (λ b. cond b A (get_or ps (J₁.unknowns - (J₁.unknowns + 1)) absent)) (eq-eqb J₁.unknowns J₁.unknowns refl) in
            let values : map (fill v.values) places ≡ ps = fresh_values v.values labels (J₁.unknowns + 1) ps (places_long (λ j s. ⊥) labels labels ps each) (λ i lt. v.behind (J₁.unknowns + 1 + i) (omega arith) ∙ ap (λ b. cond b A (get_or ps (J₁.unknowns + 1 + i - (J₁.unknowns + 1)) absent)) (ne_eqb (J₁.unknowns + 1 + i) J₁.unknowns (λ e. omega (arith, e))) ∙ ap (λ k. get_or ps k absent) (omega arith)) in
            join_satisfies labels (F ∷ []) C sorts (labels + 1) es w Γ (types₁ (rec ps)) beyond v A (v.types 0 (omega arith) ∙ sym (filled_set v.values ps A values last ∙ ap (λ x. rec (set ps (label_code l) x)) (sym rule.2) ∙ ap rec (set-get_or ps (label_code l) absent)), tt) (sym last)

        back : (Γ : Context) (A : Term) → Grounded labels Γ → GroundType labels A → Satisfies labels (posed J₁ (labels + 1) es w) (sorts_with labels (F ∷ []) C sorts) Γ A → Rule labels Sel (argument.Label l) (λ j. Stands labels (form_at (F ∷ []) j)) Γ A
        back Γ A ground type-A sat =
            let h = join_holds labels (F ∷ []) C sorts (labels + 1) es w Γ A sat in
            let child = join_child labels (F ∷ []) C sorts (labels + 1) es w Γ A ground sat in
            let ps = map (fill sat.values) places in
            let inside : label_code l < length ps = omega (arith, in-range, length-map places (fill sat.values), fresh_long labels (J₁.unknowns + 1)) in
            (set ps (label_code l) (present A), subst (Stands labels F Γ) (h.0 ∙ filled_set sat.values ps A refl (sym sat.is)) (child 0 (omega arith)), get_or-set_same ps (label_code l) (present A) absent inside)
