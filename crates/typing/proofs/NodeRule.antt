-- The rule is the rules: the status of a node, over the pairs of its children. Assumes nothing.
use Rattle.std.proofs.Common.{◌≡◌, ℕ, zero, suc, ◌<◌, ◌≤◌, Bool, true, false, cond, leb, List, [], ◌∷◌, map, length, replicate, Some, None, Option, refl, ◌∙◌, subst, arith}
use lib.ListN.{length-map}
use Rattle.std.proofs.lemmas.Bool.{both_ways, leb-true, leb-false}
use Rattle.syntax.specs.Arguments.{of_sort}
use Rattle.syntax.specs.Kinds.{arity, sort_of}
use Rattle.syntax.specs.Labels.{label_code}
use Rattle.syntax.specs.Names.{is_name}
use Rattle.syntax.specs.declared.argument.Argument.{Argument}
use Rattle.syntax.specs.declared.argument.Argument.TheVariants as argument
use Rattle.syntax.specs.declared.kind.Kind.{Kind}
use Rattle.syntax.specs.declared.kind.Kind.TheVariants.{Hole, Num, Var, Nil, Lam, Fix, Sel, App, Add, Ext, Ifz}
use Rattle.syntax.specs.declared.kind.Sort.TheVariants as sort
use Rattle.syntax.specs.declared.label.Label.{Label}
use Rattle.syntax.specs.declared.label.Label.TheVariants.{Row, Col, Ink, Lit}
use Rattle.syntax.specs.declared.name.Name as name
use Rattle.typing.specs.Cells.{Graph, free, unify, acyclic, term_of}
use Rattle.typing.specs.Constraints.{Entries, joined, constraints}
use Rattle.typing.specs.Forms.{Name, Context, Grounded, Form, hole_form, given, Stands, form_variables}
use Rattle.typing.specs.Heads.{Sort, type}
use Rattle.typing.specs.Judgements.{IsFormOf, Judges, GoodTypings, RuleIsTheRules}
use Rattle.typing.specs.Rules.{Pairs, Rule}
use Rattle.typing.specs.Solve.{Problem, lay_all, renamed_entries, filled, canonical, finished, solve}
use Rattle.typing.specs.Solved.{Exact, AnswersSorted}
use Rattle.typing.specs.Strings.{Rising, Types, Numbered, Sound, Status, formed, clashed, overlong, Typing, GoodStatus, form_bytes, longest}
use Rattle.typing.specs.Terms.{Term, fill}
use Rattle.typing.specs.Typings.{form_of, status_of}
use Rattle.typing.proofs.Children.{Ground, some_term, some_ground}
use Rattle.typing.proofs.Joining.{form_at, Child, joined_rising, renamed_rising}
use Rattle.typing.proofs.KindRules.{Ruled, hole_ruled, num_ruled, var_ruled, nil_ruled, app_ruled, add_ruled, ifz_ruled, ext_ruled, fix_ruled, sel_ruled}
use Rattle.typing.proofs.LamRule.{lam_ruled, without_rising, given_grounded, given_same, given_other}
use Rattle.typing.proofs.NamesOrder.{same_refl, Unlisted, ahead_unlisted}
use Rattle.typing.proofs.Numbering.{canonical_numbered}
use Rattle.typing.proofs.SolvingSorted.{Given, given_agrees, types_fill, solves_exactly_sorted}
use Rattle.typing.proofs.Sorting.{fill_sorted, each_true}

-- arguments and children by their number
pub named : (Q : Argument → Type 0) → ((n : name.Name) → is_name n.0 ≡ true → Q (argument.Name n)) → (a : Argument) → of_sort sort.Name a ≡ true → Q a
named Q is argument.Nothing fit = absurd (both_ways false refl fit)
named Q is (argument.Number n) fit = absurd (both_ways false refl fit)
named Q is (argument.Name n) fit = is n fit
named Q is (argument.Label l) fit = absurd (both_ways false refl fit)

pub labelled : (Q : Argument → Type 0) → ((l : Label) → Q (argument.Label l)) → (a : Argument) → of_sort sort.Label a ≡ true → Q a
labelled Q is argument.Nothing fit = absurd (both_ways false refl fit)
labelled Q is (argument.Number n) fit = absurd (both_ways false refl fit)
labelled Q is (argument.Name n) fit = absurd (both_ways false refl fit)
labelled Q is (argument.Label l) fit = is l

pub leafs : (Q : List Form → Type 0) → Q [] → (Fs : List Form) → length Fs ≡ 0 → Q Fs
leafs Q is [] e = is
leafs Q is (F ∷ Fs) e = absurd (omega arith)

pub unary : (Q : List Form → Type 0) → ((F : Form) → Q (F ∷ [])) → (Fs : List Form) → length Fs ≡ 1 → Q Fs
unary Q is [] e = absurd (omega arith)
unary Q is (F ∷ []) e = is F
unary Q is (F ∷ G ∷ Fs) e = absurd (omega arith)

pub binary : (Q : List Form → Type 0) → ((F G : Form) → Q (F ∷ G ∷ [])) → (Fs : List Form) → length Fs ≡ 2 → Q Fs
binary Q is [] e = absurd (omega arith)
binary Q is (F ∷ []) e = absurd (omega arith)
binary Q is (F ∷ G ∷ []) e = is F G
binary Q is (F ∷ G ∷ H ∷ Fs) e = absurd (omega arith)

pub ternary : (Q : List Form → Type 0) → ((F G H : Form) → Q (F ∷ G ∷ H ∷ [])) → (Fs : List Form) → length Fs ≡ 3 → Q Fs
ternary Q is [] e = absurd (omega arith)
ternary Q is (F ∷ []) e = absurd (omega arith)
ternary Q is (F ∷ G ∷ []) e = absurd (omega arith)
ternary Q is (F ∷ G ∷ H ∷ []) e = is F G H
ternary Q is (F ∷ G ∷ H ∷ I ∷ Fs) e = absurd (omega arith)

pub label_small : (l : Label) → label_code l < 4
label_small Row = omega arith
label_small Col = omega arith
label_small Ink = omega arith
label_small Lit = omega arith

abbrev pub Rules : ℕ → Kind → Argument → List Form → Type 0
Rules labels k a Fs = ((j : ℕ) → Child labels (form_at Fs j)) → Ruled labels k a Fs

pub ruled : (labels : ℕ) → 4 ≤ labels → (k : Kind) (a : Argument) → of_sort (sort_of k) a ≡ true → (Fs : List Form) → length Fs ≡ arity k → Rules labels k a Fs
ruled labels big Hole a fit = leafs (Rules labels Hole a) (λ C. hole_ruled labels a)
ruled labels big Num a fit = leafs (Rules labels Num a) (λ C. num_ruled labels a)
ruled labels big Var a fit = named (λ b. (Fs : List Form) → length Fs ≡ 0 → Rules labels Var b Fs) (λ n is. leafs (Rules labels Var (argument.Name n)) (λ C. var_ruled labels n)) a fit
ruled labels big Nil a fit = leafs (Rules labels Nil a) (λ C. nil_ruled labels a)
ruled labels big Lam a fit = named (λ b. (Fs : List Form) → length Fs ≡ 1 → Rules labels Lam b Fs) (λ n is. unary (Rules labels Lam (argument.Name n)) (λ F C. lam_ruled labels F C n)) a fit
ruled labels big Fix a fit = unary (Rules labels Fix a) (λ F C. fix_ruled labels F C a)
ruled labels big Sel a fit = labelled (λ b. (Fs : List Form) → length Fs ≡ 1 → Rules labels Sel b Fs) (λ l. unary (Rules labels Sel (argument.Label l)) (λ F C. sel_ruled labels F C l (omega (arith, big, label_small l)))) a fit
ruled labels big App a fit = binary (Rules labels App a) (λ F G C. app_ruled labels F G C a)
ruled labels big Add a fit = binary (Rules labels Add a) (λ F G C. add_ruled labels F G C a)
ruled labels big Ext a fit = labelled (λ b. (Fs : List Form) → length Fs ≡ 2 → Rules labels Ext b Fs) (λ l. binary (Rules labels Ext (argument.Label l)) (λ F G C. ext_ruled labels F G C l)) a fit
ruled labels big Ifz a fit = ternary (Rules labels Ifz a) (λ F G H C. ifz_ruled labels F G H C a)

-- the entries of a node's problem rise
risen : (labels : ℕ) (k : Kind) (a : Argument) → of_sort (sort_of k) a ≡ true → (Fs : List Form) → length Fs ≡ arity k → ((j : ℕ) → Child labels (form_at Fs j)) → Rising (constraints labels k a (joined 0 Fs)).form.entries
risen labels Hole a fit Fs len C = joined_rising labels 0 Fs C
risen labels Num a fit Fs len C = joined_rising labels 0 Fs C
risen labels Var a fit Fs len C =
    leafs (λ Gs. Rising (constraints labels Var a (joined 0 Gs)).form.entries) (named (λ b. Rising (constraints labels Var b (joined 0 [])).form.entries) (λ n is. (is, tt, tt)) a fit) Fs len
risen labels Nil a fit Fs len C = joined_rising labels 0 Fs C
risen labels Lam a fit Fs len C = without_rising _ (joined 0 Fs).entries (joined_rising labels 0 Fs C)
risen labels Fix a fit Fs len C = joined_rising labels 0 Fs C
risen labels Sel a fit Fs len C = joined_rising labels 0 Fs C
risen labels App a fit Fs len C = joined_rising labels 0 Fs C
risen labels Add a fit Fs len C = joined_rising labels 0 Fs C
risen labels Ext a fit Fs len C = joined_rising labels 0 Fs C
risen labels Ifz a fit Fs len C = joined_rising labels 0 Fs C

-- what is written has its names in order and its variables numbered
abbrev Written : Problem → Option Form → Type 0
Written P None = Unit {0}
Written P (Some F) = Rising F.entries × Numbered 0 (form_variables F)

written : (P : Problem) → Rising P.form.entries → (o : Option Graph) → Written P (finished P.form o)
written P rising None = tt
written P rising (Some g) =
    elim (acyclic g) as (λ b. Written P (cond b (Some (canonical (filled (term_of g) P.form))) None)) [ true ↦ (renamed_rising _ (renamed_entries (term_of g) P.form.entries) (renamed_rising (term_of g) P.form.entries rising), canonical_numbered (filled (term_of g) P.form)) | false ↦ tt ]

solve_written : (P : Problem) → Rising P.form.entries → Written P (solve P)
solve_written P rising =
    let laid = lay_all P.equations (replicate P.unknowns free) in
    written P rising (unify laid.0 laid.1)

-- a context that gives just these entries
lookup : Entries → Context
lookup [] = λ m. None
lookup (e ∷ es) = given e.0 e.1 (lookup es)

unlisted_given : (n : Name) (T : Term) (Γ : Context) (es : Entries) → Unlisted n es → Given es Γ → Given es (given n T Γ)
unlisted_given n T Γ [] un g = tt
unlisted_given n T Γ (e ∷ es) un g = (given_other n e.0 T Γ un.0 ∙ g.0, unlisted_given n T Γ es un.1 g.1)

lookup_given : (es : Entries) → Rising es → Given es (lookup es)
unfolding lookup
lookup_given [] rising = tt
lookup_given (e ∷ es) rising =
    (given_same e.0 e.0 e.1 (lookup es) (same_refl e.0), unlisted_given e.0 e.1 (lookup es) es (ahead_unlisted e.0 es rising.1 rising.2) (lookup_given es rising.2))

lookup_grounded : (labels : ℕ) (es : Entries) → Types (λ j s. ⊥) labels es → Grounded labels (lookup es)
unfolding lookup
lookup_grounded labels [] so n A is = absurd (let z : ◌≡◌ {A = ℕ} 0 1 = cc in omega (arith, z))
lookup_grounded labels (e ∷ es) so n A is = given_grounded labels e.0 e.1 (lookup es) so.0 (lookup_grounded labels es so.1) n A is

-- every sound form stands for some pair
pub form_inhabited : (labels : ℕ) (F : Form) → Sound labels F → (Γ : Context) × (A : Term) × Stands labels F Γ A
form_inhabited labels F sound =
    let ρ : ℕ → Term = λ k. some_term (sound.sorts k) in
    let V : ℕ → Sort → Type 0 = λ k s. sound.sorts k ≡ s in
    let good : (k : ℕ) (q : Sort) → Unit {0} → sound.sorts k ≡ q → Ground labels q (some_term (sound.sorts k)) = λ k q u e. subst (λ s. Ground labels s (some_term (sound.sorts k))) e (some_ground labels (sound.sorts k)) in
    let es = renamed_entries ρ F.entries in
    (lookup es, fill ρ F.result, record { context = lookup_grounded labels es (types_fill V (λ j s. ⊥) (λ k. Unit {0}) labels ρ good F.entries (each_true _) sound.types); ground = fill_sorted V (λ j s. ⊥) (λ k. Unit {0}) labels ρ good F.result [] type (each_true _) sound.result; values = ρ; agrees = given_agrees ρ F.entries (lookup es) (lookup_given es (renamed_rising ρ F.entries sound.rising)); is = refl })

module _ (labels : ℕ) (k : Kind) (a : Argument) (Fs : List Form) (R : Ruled labels k a Fs) where
  abbrev P : Problem
  P = constraints labels k a (joined 0 Fs)

  abbrev Set : Pairs
  Set = Rule labels k a (λ j. Stands labels (form_at Fs j))

  is_form : (F : Form) → Exact labels P R.sorted.sorts F → Written P (Some F) → IsFormOf labels Set F
  is_form F exact w =
      let sound : Sound labels F = record { rising = w.0; sorts = exact.form_sorts; types = exact.entries; result = exact.result; numbered = w.1 } in
      let some = form_inhabited labels F sound in
      let back : (Γ : Context) (A : Term) → Stands labels F Γ A → Rule labels k a (λ j. Stands labels (form_at Fs j)) Γ A = λ Γ A s. R.back Γ A s.context s.ground (exact.back Γ A s) in
      record { sound = sound; inhabited = record { context = some.0; of = some.1; grounded = some.2.context; ground = some.2.ground; holds = back some.0 some.1 some.2 }; onto = λ Γ A gΓ gA r. exact.onto Γ A gΓ gA (R.onto Γ A gΓ gA r); back = back }

  judged : (o : Option Form) → AnswersSorted labels P R.sorted.sorts o → Written P o → Judges labels Set (status_of o)
  judged None none w = λ Γ A gΓ gA r. none Γ A (R.onto Γ A gΓ gA r)
  judged (Some F) exact w = by_length (leb (length (form_bytes F)) longest) refl
    where
      by_length : (b : Bool) → leb (length (form_bytes F)) longest ≡ b → Judges labels (Rule labels k a (λ j. Stands labels (form_at Fs j))) (cond b (formed F) overlong)
      by_length true is = (is_form F exact w, leb-true _ _ is)
      by_length false is = (F, is_form F exact w, leb-false _ _ is)

-- a good typing is a child
sound_child : (labels : ℕ) (F : Form) → Sound labels F → Child labels F
sound_child labels F sound = record { rising = sound.rising; sorts = sound.sorts; types = sound.types; result = sound.result }

hole_child : (labels : ℕ) → Child labels hole_form
hole_child labels = record { rising = tt; sorts = λ k. type; types = tt; result = (refl, refl) }

status_child : (labels : ℕ) (s : Status) → GoodStatus labels s → Child labels (form_of s)
status_child labels (formed F) good = sound_child labels F good.sound
status_child labels clashed good = hole_child labels
status_child labels overlong good = hole_child labels

pub typings_children : (labels : ℕ) (Ts : List Typing) → GoodTypings labels Ts → (j : ℕ) → Child labels (form_at (map (λ T. form_of T.status) Ts) j)
typings_children labels [] good j = hole_child labels
typings_children labels (T ∷ Ts) good zero = status_child labels T.status good.0.status
typings_children labels (T ∷ Ts) good (suc j) = typings_children labels Ts good.1 j

pub rule_is_the_rules : RuleIsTheRules
rule_is_the_rules labels s Ts big fit len good =
    let Fs = map (λ T. form_of T.status) Ts in
    let C = typings_children labels Ts good in
    let long : length Fs ≡ arity s.kind = length-map Ts (λ T. form_of T.status) ∙ len in
    let R = ruled labels big s.kind s.argument fit Fs long C in
    let Q = constraints labels s.kind s.argument (joined 0 Fs) in
    judged labels s.kind s.argument Fs R (solve Q) (solves_exactly_sorted labels Q R.posed R.sorted) (solve_written Q (risen labels s.kind s.argument fit Fs long C))
