-- Solving a sorted problem: the form found is sorted, and stands for just the pairs of context and
-- ground type that satisfy the problem. Assumes nothing.
use Rattle.std.proofs.Common.{◌≡◌, ℕ, ◌<◌, Bool, true, false, cond, eqb, ◌⊎◌, List, [], ◌∷◌, length, get_or, replicate, Some, None, Option, sym, refl, ap, ◌∙◌, subst, inl, inr, arith}
use Rattle.std.proofs.lemmas.Bool.{both_ways, eqb-true, eq-eqb, or_cases, or_left, or_right}
use Rattle.typing.specs.Cells.{free, Graph, unify, acyclic, term_of}
use Rattle.typing.specs.Forms.{Name, Context, Grounded, Form, Agrees, Stands, entry_variables, form_variables}
use Rattle.typing.specs.Heads.{Sort, type, place}
use Rattle.typing.specs.Solutions.{Solves, Equal}
use Rattle.typing.specs.Solve.{Problem, renamed_entries, filled, member, distinct, position, canonical, finished}
use Rattle.typing.specs.Solved.{Bounded, AllBounded, EntriesBounded, Posed, Answers, WellSorted, Satisfies, Exact, AnswersSorted, SolvesExactlySorted}
use Rattle.typing.specs.Strings.{Types}
use Rattle.typing.specs.Terms.{Term, var, head, ◌·◌, num, absent, fill, variables, Sorted, GroundType}
use Rattle.typing.proofs.Merging.{Ran, unify_ran}
use Rattle.typing.proofs.Occurs.{term_solves}
use Rattle.typing.proofs.Renaming.{Each, each_append, each_map, fill_alike, fill_fill, distinct_has, position_of}
use Rattle.typing.proofs.Shapes.{Shape, ◌⇒◌, Shaped, SamePairs, WellShaped, RunShaped, run_shaped, term_sorted, SortedAs}
use Rattle.typing.proofs.Solving.{cell_free, free_tidy, long, graph, pairs, placed, solves_exactly}
use Rattle.typing.proofs.Sorting.{VarShape, Fitted, lay_all_shaped, fill_sorted, unfill_sorted, equations_agree, each_join, each_true}

-- entries given by a context, with nothing left to fill
abbrev pub Given : List (Name × Term) → Context → Type 0
Given [] Γ = Unit {0}
Given (e ∷ es) Γ = (Γ e.0 ≡ Some e.1) × Given es Γ

pub agrees_given : (ρ : ℕ → Term) (es : List (Name × Term)) (Γ : Context) → Agrees ρ es Γ → Given (renamed_entries ρ es) Γ
agrees_given ρ [] Γ a = tt
agrees_given ρ (e ∷ es) Γ a = (a.0, agrees_given ρ es Γ a.1)

pub given_agrees : (ρ : ℕ → Term) (es : List (Name × Term)) (Γ : Context) → Given (renamed_entries ρ es) Γ → Agrees ρ es Γ
given_agrees ρ [] Γ a = tt
given_agrees ρ (e ∷ es) Γ a = (a.0, given_agrees ρ es Γ a.1)

-- forms with equal instances agree with the same contexts
pub agrees_moved : (ρ τ : ℕ → Term) (F G : Form) (Γ : Context) → filled τ F ≡ filled ρ G → Agrees ρ G.entries Γ → Agrees τ F.entries Γ
agrees_moved ρ τ F G Γ e a =
    given_agrees τ F.entries Γ (subst (λ (H : Form). Given H.entries Γ) (sym e) (agrees_given ρ G.entries Γ a))

pub result_moved : (ρ τ : ℕ → Term) (F G : Form) → filled τ F ≡ filled ρ G → fill τ F.result ≡ fill ρ G.result
result_moved ρ τ F G e = ap (λ (H : Form). H.result) e

bounded_each : (n : ℕ) (t : Term) → Bounded n t → Each (λ k. k < n) (variables t)
bounded_each n (var k) b = (b, tt)
bounded_each n (head h) b = tt
bounded_each n (f · x) b = each_join (λ k. k < n) (variables f) (variables x) (bounded_each n f b.0) (bounded_each n x b.1)

entries_each : (n : ℕ) (es : List (Name × Term)) → EntriesBounded n es → Each (λ k. k < n) (entry_variables es)
entries_each n [] b = tt
entries_each n (e ∷ es) b = each_join (λ k. k < n) (variables e.1) (entry_variables es) (bounded_each n e.1 b.0) (entries_each n es b.1)

pub types_fill : (V W : ℕ → Sort → Type 0) (Q : ℕ → Type 0) (labels : ℕ) (ρ : ℕ → Term) → ((k : ℕ) (q : Sort) → Q k → V k q → Sorted W labels [] q (ρ k)) → (es : List (Name × Term)) → Each Q (entry_variables es) → Types V labels es → Types W labels (renamed_entries ρ es)
types_fill V W Q labels ρ good [] each so = tt
types_fill V W Q labels ρ good (e ∷ es) each so =
    let r = each_append Q (variables e.1) (entry_variables es) each in
    (fill_sorted V W Q labels ρ good e.1 [] type r.0 so.0, types_fill V W Q labels ρ good es r.1 so.1)

-- each variable of entries that agree with a ground context is filled with a term of its sort
pub types_unfill : (V : ℕ → Sort → Type 0) (labels : ℕ) (ρ : ℕ → Term) → ((k : ℕ) (q r : Sort) → V k q → V k r → q ≡ r) → (Γ : Context) → Grounded labels Γ → (es : List (Name × Term)) → Types V labels es → Agrees ρ es Γ → Each (λ k. (q : Sort) → V k q → Sorted (λ j s. ⊥) labels [] q (ρ k)) (entry_variables es)
types_unfill V labels ρ one Γ ground [] so a = tt
types_unfill V labels ρ one Γ ground (e ∷ es) so a =
    each_join (λ k. (q : Sort) → V k q → Sorted (λ j s. ⊥) labels [] q (ρ k)) (variables e.1) (entry_variables es)
    (unfill_sorted V (λ j s. ⊥) labels ρ one e.1 [] type so.0 (ground e.0 (fill ρ e.1) a.0)) (types_unfill V labels ρ one Γ ground es so.1 a.1)

pub agrees_alike : (ρ τ : ℕ → Term) (Γ : Context) (es : List (Name × Term)) → Each (λ k. ρ k ≡ τ k) (entry_variables es) → Agrees ρ es Γ → Agrees τ es Γ
agrees_alike ρ τ Γ [] each a = tt
agrees_alike ρ τ Γ (e ∷ es) each a =
    let r = each_append (λ k. ρ k ≡ τ k) (variables e.1) (entry_variables es) each in
    (a.0 ∙ ap Some (fill_alike ρ τ e.1 r.0), agrees_alike ρ τ Γ es r.1 a.1)

pub agrees_renamed : (ρ τ : ℕ → Term) (Γ : Context) (es : List (Name × Term)) → Agrees τ (renamed_entries ρ es) Γ → Agrees (λ k. fill τ (ρ k)) es Γ
agrees_renamed ρ τ Γ [] a = tt
agrees_renamed ρ τ Γ (e ∷ es) a = (a.0 ∙ ap Some (fill_fill τ ρ e.1), agrees_renamed ρ τ Γ es a.1)

pub each_member : (P : ℕ → Type 0) (xs : List ℕ) (k : ℕ) → Each P xs → member k xs ≡ true → P k
each_member P [] k each m = absurd (both_ways false refl m)
each_member P (x ∷ xs) k each m = by_case (or_cases (eqb k x) (member k xs) m) (each_member P xs k each.1)
  where
    by_case : (eqb k x ≡ true) ⊎ (member k xs ≡ true) → (member k xs ≡ true → P k) → P k
    by_case (inl e) later = subst P (sym (eqb-true k x e)) each.0
    by_case (inr e) later = later e

pub each_self : (xs : List ℕ) → Each (λ k. member k xs ≡ true) xs
each_self xs = all xs xs (λ k m. m)
  where
    all : (ys zs : List ℕ) → ((k : ℕ) → member k ys ≡ true → member k zs ≡ true) → Each (λ k. member k zs ≡ true) ys
    all [] zs up = tt
    all (y ∷ ys) zs up = (up y (or_left _ _ (eq-eqb y y refl)), all ys zs (λ k m. up k (or_right _ _ m)))

-- a ground term of a shape's sort
default : Shape → Term
default (N ⇒ type) = num
default (N ⇒ place) = absent

default_sorted : (labels : ℕ) (q : Sort) → Sorted (λ j s. ⊥) labels [] q (default ([] ⇒ q))
unfolding default
default_sorted labels type = (refl, refl)
default_sorted labels place = (refl, refl)

makes : Shape → Sort
makes (N ⇒ s) = s

one_sort : (S : ℕ → Shape) (k : ℕ) (q r : Sort) → VarShape S k q → VarShape S k r → q ≡ r
one_sort S k q r a b = let e : ([] ⇒ q) ≡ ([] ⇒ r) = sym a ∙ b in cc

module _ (labels : ℕ) (P : Problem) (posed : Posed P) (W : WellSorted labels P) where
  abbrev start_shapes : ℕ → Shape
  start_shapes k = [] ⇒ W.sorts k

  start_well : WellShaped labels start_shapes (replicate P.unknowns free)
  start_well i lt = subst (Shaped labels start_shapes i) (sym (cell_free P.unknowns i)) (W.sorts i, refl)

  bounds : AllBounded (length (replicate P.unknowns free)) P.equations
  bounds = subst (λ n. AllBounded n P.equations) (sym (long P posed)) posed.equations

  fitted : (f : Fitted labels start_shapes (replicate P.unknowns free) (graph P posed)) × SamePairs f.shapes (pairs P posed)
  fitted = lay_all_shaped labels P.equations start_shapes (replicate P.unknowns free) (free_tidy P.unknowns) start_well bounds (equations_agree (λ k s. W.sorts k ≡ s) (VarShape start_shapes) labels P.unknowns (λ k q lt e. ap (λ s. [] ⇒ s) e) P.equations posed.equations W.equations)

  shapes : ℕ → Shape
  shapes = fitted.0.shapes

  unknown_shape : (k : ℕ) → k < P.unknowns → shapes k ≡ ([] ⇒ W.sorts k)
  unfolding shapes
  unknown_shape k lt = fitted.0.agree k (omega (arith, lt, long P posed))

  module _ (g : Graph) (found : unify (graph P posed) (pairs P posed) ≡ Some g) (passes : acyclic g ≡ true) where
    size' : ℕ
    size' = length (graph P posed)

    ran : Ran (length (graph P posed)) (graph P posed) (pairs P posed) (Some g)
    ran = subst (Ran (length (graph P posed)) (graph P posed) (pairs P posed)) found (unify_ran (length (graph P posed)) (graph P posed) (pairs P posed) (placed P posed).laid.tidy (placed P posed).within)

    -- whatever the free cells are, the graph before has that solution
    solved : (ρ : ℕ → Term) → Solves (λ i. fill ρ (term_of g i)) (graph P posed) × Equal (λ i. fill ρ (term_of g i)) (pairs P posed)
    solved ρ = ran.2 (λ i. fill ρ (term_of g i)) (term_solves (length (graph P posed)) g ran.0 passes ρ)

    well : WellShaped labels shapes g
    unfolding shapes
    well =
        let s = solved var in
        subst (RunShaped labels fitted.0.shapes) found (run_shaped labels (length (graph P posed)) fitted.0.shapes (λ i. fill var (term_of g i)) _ (graph P posed) (pairs P posed) (placed P posed).laid.tidy (placed P posed).within s.0 s.1 fitted.0.well fitted.1)

    unknown_inside : (k : ℕ) → k < P.unknowns → k < length (graph P posed)
    unknown_inside k lt = omega (arith, lt, long P posed, (placed P posed).laid.longer)

    unknown_term : (k : ℕ) → k < P.unknowns → Sorted (VarShape shapes) labels [] (W.sorts k) (term_of g k)
    unknown_term k lt =
        subst (λ z. SortedAs labels shapes z (term_of g k)) (unknown_shape k lt) (term_sorted labels (length (graph P posed)) shapes g ran.0 well passes k (unknown_inside k lt))

    unknown_good : (k : ℕ) (q : Sort) → k < P.unknowns → W.sorts k ≡ q → Sorted (VarShape shapes) labels [] q (term_of g k)
    unknown_good k q lt e = subst (λ s. Sorted (VarShape shapes) labels [] s (term_of g k)) e (unknown_term k lt)

    abbrev general : Form
    general = filled (term_of g) P.form

    general_types : Types (VarShape shapes) labels general.entries
    general_types = types_fill (λ k s. W.sorts k ≡ s) (VarShape shapes) (λ k. k < P.unknowns) labels (term_of g) unknown_good P.form.entries (entries_each P.unknowns P.form.entries posed.entries) W.entries

    general_result : Sorted (VarShape shapes) labels [] type general.result
    general_result = fill_sorted (λ k s. W.sorts k ≡ s) (VarShape shapes) (λ k. k < P.unknowns) labels (term_of g) unknown_good P.form.result [] type (bounded_each P.unknowns P.form.result posed.result) W.result

    abbrev seen : List ℕ
    seen = distinct [] (form_variables general)

    form_sorts : ℕ → Sort
    form_sorts j = makes (shapes (get_or seen j 0))

    renamed_good : (k : ℕ) (q : Sort) → member k seen ≡ true → VarShape shapes k q → Sorted (λ j s. form_sorts j ≡ s) labels [] q (var (position k seen))
    unfolding form_sorts makes
    renamed_good k q m v = (refl, ap (λ i. makes (shapes i)) (position_of k seen m) ∙ ap makes v)

    parts_seen : Each (λ k. member k seen ≡ true) (entry_variables general.entries) × Each (λ k. member k seen ≡ true) (variables general.result)
    parts_seen = each_append (λ k. member k seen ≡ true) (entry_variables general.entries) (variables general.result) (distinct_has (form_variables general) [])

    -- a pair that the form stands for comes from a solution in which all is sorted
    module _ (Γ : Context) (A : Term) (stands : Stands labels (canonical general) Γ A) where
      filler : ℕ → Term
      filler k = stands.values (position k seen)

      filler_agrees : Agrees filler general.entries Γ
      unfolding filler
      filler_agrees = agrees_renamed (λ k. var (position k seen)) stands.values Γ general.entries stands.agrees

      filler_is : A ≡ fill filler general.result
      unfolding filler
      filler_is = stands.is ∙ fill_fill stands.values (λ k. var (position k seen)) general.result

      visible : Each (λ k. (q : Sort) → VarShape shapes k q → Sorted (λ j s. ⊥) labels [] q (filler k)) (form_variables general)
      visible = each_join (λ k. (q : Sort) → VarShape shapes k q → Sorted (λ j s. ⊥) labels [] q (filler k)) (entry_variables general.entries) (variables general.result)
          (types_unfill (VarShape shapes) labels filler (one_sort shapes) Γ stands.context general.entries general_types filler_agrees)
          (unfill_sorted (VarShape shapes) (λ j s. ⊥) labels filler (one_sort shapes) general.result [] type general_result (subst (λ t. Sorted (λ j s. ⊥) labels [] type t) filler_is stands.ground))

      -- where the form does not show a free cell, any ground term of its sort does
      complete : ℕ → Term
      complete k = cond (member k (form_variables general)) (filler k) (default (shapes k))

      complete_sorted : (k : ℕ) (q : Sort) → VarShape shapes k q → Sorted (λ j s. ⊥) labels [] q (complete k)
      unfolding complete
      complete_sorted k q v = by_sight (member k (form_variables general)) refl
        where
          by_sight : (b : Bool) → member k (form_variables general) ≡ b → Sorted (λ j s. ⊥) labels [] q (cond b (filler k) (default (shapes k)))
          by_sight true is = each_member (λ k. (q : Sort) → VarShape shapes k q → Sorted (λ j s. ⊥) labels [] q (filler k)) (form_variables general) k visible is q v
          by_sight false is = subst (λ z. Sorted (λ j s. ⊥) labels [] q (default z)) (sym v) (default_sorted labels q)

      alike : Each (λ k. filler k ≡ complete k) (form_variables general)
      unfolding complete
      alike = each_map (λ k. member k (form_variables general) ≡ true) (λ k. filler k ≡ cond (member k (form_variables general)) (filler k) (default (shapes k))) (λ k m. ap (λ b. cond b (filler k) (default (shapes k))) (sym m)) (form_variables general) (each_self (form_variables general))

      parts_alike : Each (λ k. filler k ≡ complete k) (entry_variables general.entries) × Each (λ k. filler k ≡ complete k) (variables general.result)
      parts_alike = each_append (λ k. filler k ≡ complete k) (entry_variables general.entries) (variables general.result) alike

      satisfied : Satisfies labels P W.sorts Γ A
      satisfied = record { values = λ k. fill complete (term_of g k); sorted = λ k lt. fill_sorted (VarShape shapes) (λ j s. ⊥) (λ i. Unit {0}) labels complete (λ i q u v. complete_sorted i q v) (term_of g k) [] (W.sorts k) (each_true (variables (term_of g k))) (unknown_term k lt); holds = (placed P posed).back (λ k. fill complete (term_of g k)) (solved complete).0 (solved complete).1; agrees = agrees_renamed (term_of g) complete Γ P.form.entries (agrees_alike filler complete Γ general.entries parts_alike.0 filler_agrees); is = filler_is ∙ fill_alike filler complete general.result parts_alike.1 ∙ fill_fill complete (term_of g) P.form.result }

    exact : Answers P (Some (canonical general)) → Exact labels P W.sorts (canonical general)
    exact answers = record { form_sorts = form_sorts; entries = types_fill (VarShape shapes) (λ j s. form_sorts j ≡ s) (λ k. member k seen ≡ true) labels (λ k. var (position k seen)) renamed_good general.entries parts_seen.0 general_types; result = fill_sorted (VarShape shapes) (λ j s. form_sorts j ≡ s) (λ k. member k seen ≡ true) labels (λ k. var (position k seen)) renamed_good general.result [] type parts_seen.1 general_result; onto = onto; back = satisfied }
      where
        onto : (Γ : Context) (A : Term) → Grounded labels Γ → GroundType labels A → Satisfies labels P W.sorts Γ A → Stands labels (canonical general) Γ A
        onto Γ A ground-Γ ground-A sat =
            let a = answers.0 sat.values sat.holds in
            record { context = ground-Γ; ground = ground-A; values = a.0; agrees = agrees_moved sat.values a.0 (canonical general) P.form Γ a.1 sat.agrees; is = sat.is ∙ sym (result_moved sat.values a.0 (canonical general) P.form a.1) }

  by_graph : (o : Option Graph) → unify (graph P posed) (pairs P posed) ≡ o → Answers P (finished P.form o) → AnswersSorted labels P W.sorts (finished P.form o)
  by_graph None found answers = λ Γ A sat. answers sat.values sat.holds
  by_graph (Some g) found answers = by_check (acyclic g) refl answers
    where
      by_check : (b : Bool) → acyclic g ≡ b → Answers P (cond b (Some (canonical (filled (term_of g) P.form))) None) → AnswersSorted labels P W.sorts (cond b (Some (canonical (filled (term_of g) P.form))) None)
      by_check false is a = λ Γ A sat. a sat.values sat.holds
      by_check true is a = exact g found is a

pub solves_exactly_sorted : SolvesExactlySorted
solves_exactly_sorted labels P posed W = by_graph labels P posed W (unify (graph P posed) (pairs P posed)) refl (solves_exactly P posed)
