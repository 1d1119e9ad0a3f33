-- The typing relation and the rules of the kinds say the same. Assumes nothing.
use Rattle.std.proofs.Common.{◌≡◌, ℕ, ◌<◌, true, false, set, replicate, Some, None, Option, sym, refl, subst, arith}
use Rattle.std.proofs.lemmas.Bool.{both_ways}
use Rattle.syntax.specs.Arguments.{of_sort}
use Rattle.syntax.specs.Kinds.{arity, sort_of}
use Rattle.syntax.specs.Labels.{label_code}
use Rattle.syntax.specs.Trees.{Forest, none, grow, Tree, node, count, child}
use Rattle.syntax.specs.declared.argument.Argument.{Argument}
use Rattle.syntax.specs.declared.argument.Argument.TheVariants as argument
use Rattle.syntax.specs.declared.argument.Symbol.{Symbol}
use Rattle.syntax.specs.declared.kind.Kind.{Kind}
use Rattle.syntax.specs.declared.kind.Kind.TheVariants.{Hole, Num, Var, Nil, Lam, Fix, Sel, App, Add, Ext, Ifz}
use Rattle.syntax.specs.declared.kind.Sort.TheVariants as sort
use Rattle.typing.specs.Forms.{Context, Grounded, given}
use Rattle.typing.specs.Heads.{place}
use Rattle.typing.specs.Rules.{Pairs, Rule, Has, hole, number, variable, nil, lam, fix, sel, app, add, ext, ifz, with, beside}
use Rattle.typing.specs.Terms.{Term, num, fun, rec, absent, present, GroundType}
use Rattle.typing.proofs.Children.{Ground}
use Rattle.typing.proofs.KindRules.{fun_sorted, fun_parts}
use Rattle.typing.proofs.LamRule.{given_grounded}
use Rattle.typing.proofs.NodeRule.{named, labelled}
use Rattle.typing.proofs.Records.{rec_sorted, rec_places, place_at, place_set, present_sorted, present_part, absent_places}

-- what has a type in a ground context has a ground type
pub has_ground : (labels : ℕ) (Γ : Context) (t : Tree Symbol) (A : Term) → Has labels Γ t A → Grounded labels Γ → GroundType labels A
has_ground labels Γ t A (hole g) ground = g
has_ground labels Γ t A number ground = (refl, refl)
has_ground labels Γ t A (variable e) ground = ground _ A e
has_ground labels Γ t A nil ground = rec_sorted (λ j s. ⊥) labels (replicate labels absent) (absent_places (λ j s. ⊥) labels labels)
has_ground labels Γ t A (lam {n = n} {t = u} {A = P} {B = B} g h) ground =
    fun_sorted (λ j s. ⊥) labels P B g (has_ground labels (given n.0 P Γ) u B h (given_grounded labels n.0 P Γ g ground))
has_ground labels Γ t A (fix {t = u} h) ground = (fun_parts (λ j s. ⊥) labels A A (has_ground labels Γ u (fun A A) h ground)).0
has_ground labels Γ t A (sel {l = l} {t = u} places h e) ground =
    present_part (λ j s. ⊥) labels A (subst (λ x. Ground labels place x) e (place_at (λ j s. ⊥) labels labels places (rec_places (λ j s. ⊥) labels places (has_ground labels Γ u (rec places) h ground)) (label_code l)))
has_ground labels Γ t A (app {t = u} {A = P} h h') ground = (fun_parts (λ j s. ⊥) labels P A (has_ground labels Γ u (fun P A) h ground)).1
has_ground labels Γ t A (add h h') ground = (refl, refl)
has_ground labels Γ t A (ext {l = l} {t = u} {u = v} {A = P} places h h') ground =
    rec_sorted (λ j s. ⊥) labels (set places (label_code l) (present P)) (place_set (λ j s. ⊥) labels labels places (rec_places (λ j s. ⊥) labels places (has_ground labels Γ u (rec places) h ground)) (label_code l) (present P) (present_sorted (λ j s. ⊥) labels P (has_ground labels Γ v P h' ground)))
has_ground labels Γ t A (ifz {u = u} h h' h'') ground = has_ground labels Γ u A h' ground

-- the typing relation of child k
abbrev pub HasIn : ℕ → Option (Tree Symbol) → Pairs
HasIn labels None Γ A = ⊥
HasIn labels (Some t) Γ A = Has labels Γ t A

abbrev pub HasAt : ℕ → Forest Symbol → ℕ → Pairs
HasAt labels c j = HasIn labels (child c j)

abbrev pub TreeRule : ℕ → Tree Symbol → Pairs
TreeRule labels (node s c) = Rule labels s.kind s.argument (HasAt labels c)

first : (labels : ℕ) (Γ : Context) (t : Tree Symbol) (A : Term) (f : Forest Symbol) → Has labels Γ t A → HasAt labels (beside t f) 0 Γ A
first labels Γ (node s c) A f h = h

second : (labels : ℕ) (Γ : Context) (t u : Tree Symbol) (A : Term) (f : Forest Symbol) → Has labels Γ u A → HasAt labels (beside t (beside u f)) 1 Γ A
second labels Γ (node s c) (node s' c') A f h = h

third : (labels : ℕ) (Γ : Context) (t u v : Tree Symbol) (A : Term) (f : Forest Symbol) → Has labels Γ v A → HasAt labels (beside t (beside u (beside v f))) 2 Γ A
third labels Γ (node s c) (node s' c') (node s'' c'') A f h = h

pub has_rule : (labels : ℕ) (Γ : Context) (t : Tree Symbol) (A : Term) → Has labels Γ t A → TreeRule labels t Γ A
has_rule labels Γ t A (hole g) = g
has_rule labels Γ t A number = refl
has_rule labels Γ t A (variable e) = e
has_rule labels Γ t A nil = refl
has_rule labels Γ t A (lam {n = n} {t = u} {A = P} {B = B} g h) = (P, B, g, first labels (given n.0 P Γ) u B none h, refl)
has_rule labels Γ t A (fix {t = u} h) = first labels Γ u (fun A A) none h
has_rule labels Γ t A (sel {t = u} places h e) = (places, first labels Γ u (rec places) none h, e)
has_rule labels Γ t A (app {t = u} {u = v} {A = P} h h') = (P, first labels Γ u (fun P A) (beside v none) h, second labels Γ u v P none h')
has_rule labels Γ t A (add {t = u} {u = v} h h') = (first labels Γ u num (beside v none) h, second labels Γ u v num none h', refl)
has_rule labels Γ t A (ext {t = u} {u = v} {A = P} places h h') = (places, P, first labels Γ u (rec places) (beside v none) h, second labels Γ u v P none h', refl)
has_rule labels Γ t A (ifz {t = u} {u = v} {v = w} h h' h'') = (first labels Γ u num (beside v (beside w none)) h, second labels Γ u v A (beside w none) h', third labels Γ u v w A none h'')

-- arguments by their sort, and children by their number
without_argument : (Q : Argument → Type 0) → Q argument.Nothing → (a : Argument) → of_sort sort.Nothing a ≡ true → Q a
without_argument Q is argument.Nothing fit = is
without_argument Q is (argument.Number n) fit = absurd (both_ways false refl fit)
without_argument Q is (argument.Name n) fit = absurd (both_ways false refl fit)
without_argument Q is (argument.Label l) fit = absurd (both_ways false refl fit)

with_number : (Q : Argument → Type 0) → ((n : ℕ) → Q (argument.Number n)) → (a : Argument) → of_sort sort.Number a ≡ true → Q a
with_number Q is argument.Nothing fit = absurd (both_ways false refl fit)
with_number Q is (argument.Number n) fit = is n
with_number Q is (argument.Name n) fit = absurd (both_ways false refl fit)
with_number Q is (argument.Label l) fit = absurd (both_ways false refl fit)

childless : (Q : Forest Symbol → Type 0) → Q none → (c : Forest Symbol) → count c ≡ 0 → Q c
childless Q is none e = is
childless Q is (grow s c f) e = absurd (omega arith)

with_one : (Q : Forest Symbol → Type 0) → ((t : Tree Symbol) → Q (beside t none)) → (c : Forest Symbol) → count c ≡ 1 → Q c
with_one Q is none e = absurd (omega arith)
with_one Q is (grow s c none) e = is (node s c)
with_one Q is (grow s c (grow s' c' f)) e = absurd (omega arith)

with_two : (Q : Forest Symbol → Type 0) → ((t u : Tree Symbol) → Q (beside t (beside u none))) → (c : Forest Symbol) → count c ≡ 2 → Q c
with_two Q is none e = absurd (omega arith)
with_two Q is (grow s c none) e = absurd (omega arith)
with_two Q is (grow s c (grow s' c' none)) e = is (node s c) (node s' c')
with_two Q is (grow s c (grow s' c' (grow s'' c'' f))) e = absurd (omega arith)

with_three : (Q : Forest Symbol → Type 0) → ((t u v : Tree Symbol) → Q (beside t (beside u (beside v none)))) → (c : Forest Symbol) → count c ≡ 3 → Q c
with_three Q is none e = absurd (omega arith)
with_three Q is (grow s c none) e = absurd (omega arith)
with_three Q is (grow s c (grow s' c' none)) e = absurd (omega arith)
with_three Q is (grow s c (grow s' c' (grow s'' c'' none))) e = is (node s c) (node s' c') (node s'' c'')
with_three Q is (grow s c (grow s' c' (grow s'' c'' (grow s''' c''' f)))) e = absurd (omega arith)

from_first : (labels : ℕ) (Γ : Context) (t : Tree Symbol) (A : Term) (f : Forest Symbol) → HasAt labels (beside t f) 0 Γ A → Has labels Γ t A
from_first labels Γ (node s c) A f h = h

from_second : (labels : ℕ) (Γ : Context) (t u : Tree Symbol) (A : Term) (f : Forest Symbol) → HasAt labels (beside t (beside u f)) 1 Γ A → Has labels Γ u A
from_second labels Γ (node s c) (node s' c') A f h = h

from_third : (labels : ℕ) (Γ : Context) (t u v : Tree Symbol) (A : Term) (f : Forest Symbol) → HasAt labels (beside t (beside u (beside v f))) 2 Γ A → Has labels Γ v A
from_third labels Γ (node s c) (node s' c') (node s'' c'') A f h = h

module _ (labels : ℕ) (Γ : Context) (A : Term) where
  abbrev Yields : Kind → Argument → Forest Symbol → Type 0
  Yields k a c = Rule labels k a (HasAt labels c) Γ A → Has labels Γ (node (with k a) c) A

  as_typed : (t : Tree Symbol) (B : Term) → A ≡ B → Has labels Γ t B → Has labels Γ t A
  as_typed t B e h = subst (λ x. Has labels Γ t x) (sym e) h

  pub rule_has : (k : Kind) (a : Argument) → of_sort (sort_of k) a ≡ true → (c : Forest Symbol) → count c ≡ arity k → Yields k a c
  rule_has Hole a fit = without_argument (λ b. (c : Forest Symbol) → count c ≡ 0 → Yields Hole b c) (childless (Yields Hole argument.Nothing) (λ r. hole r)) a fit
  rule_has Num a fit = with_number (λ b. (c : Forest Symbol) → count c ≡ 0 → Yields Num b c) (λ n. childless (Yields Num (argument.Number n)) (λ r. as_typed _ num r number)) a fit
  rule_has Var a fit = named (λ b. (c : Forest Symbol) → count c ≡ 0 → Yields Var b c) (λ n is. childless (Yields Var (argument.Name n)) (λ r. variable r)) a fit
  rule_has Nil a fit = without_argument (λ b. (c : Forest Symbol) → count c ≡ 0 → Yields Nil b c) (childless (Yields Nil argument.Nothing) (λ r. as_typed _ (rec (replicate labels absent)) r nil)) a fit
  rule_has Lam a fit = named (λ b. (c : Forest Symbol) → count c ≡ 1 → Yields Lam b c) (λ n is. with_one (Yields Lam (argument.Name n)) (λ t r. as_typed _ (fun r.0 r.1) r.4 (lam r.2 (from_first labels (given n.0 r.0 Γ) t r.1 none r.3)))) a fit
  rule_has Fix a fit = without_argument (λ b. (c : Forest Symbol) → count c ≡ 1 → Yields Fix b c) (with_one (Yields Fix argument.Nothing) (λ t r. fix (from_first labels Γ t (fun A A) none r))) a fit
  rule_has Sel a fit = labelled (λ b. (c : Forest Symbol) → count c ≡ 1 → Yields Sel b c) (λ l. with_one (Yields Sel (argument.Label l)) (λ t r. sel r.0 (from_first labels Γ t (rec r.0) none r.1) r.2)) a fit
  rule_has App a fit = without_argument (λ b. (c : Forest Symbol) → count c ≡ 2 → Yields App b c) (with_two (Yields App argument.Nothing) (λ t u r. app (from_first labels Γ t (fun r.0 A) (beside u none) r.1) (from_second labels Γ t u r.0 none r.2))) a fit
  rule_has Add a fit = without_argument (λ b. (c : Forest Symbol) → count c ≡ 2 → Yields Add b c) (with_two (Yields Add argument.Nothing) (λ t u r. as_typed _ num r.2 (add (from_first labels Γ t num (beside u none) r.0) (from_second labels Γ t u num none r.1)))) a fit
  rule_has Ext a fit = labelled (λ b. (c : Forest Symbol) → count c ≡ 2 → Yields Ext b c) (λ l. with_two (Yields Ext (argument.Label l)) (λ t u r. as_typed _ (rec (set r.0 (label_code l) (present r.1))) r.4 (ext r.0 (from_first labels Γ t (rec r.0) (beside u none) r.2) (from_second labels Γ t u r.1 none r.3)))) a fit
  rule_has Ifz a fit = without_argument (λ b. (c : Forest Symbol) → count c ≡ 3 → Yields Ifz b c) (with_three (Yields Ifz argument.Nothing) (λ t u v r. ifz (from_first labels Γ t num (beside u (beside v none)) r.0) (from_second labels Γ t u A (beside v none) r.1) (from_third labels Γ t u v A none r.2))) a fit

-- a rule asks of its children no more than their pairs in ground contexts
pub rule_map : (labels : ℕ) (k : Kind) (a : Argument) (C D : ℕ → Pairs) (Γ : Context) (A : Term) → Grounded labels Γ → ((j : ℕ) → j < arity k → (Δ : Context) (B : Term) → Grounded labels Δ → C j Δ B → D j Δ B) → Rule labels k a C Γ A → Rule labels k a D Γ A
rule_map labels Hole a C D Γ A ground up r = r
rule_map labels Num a C D Γ A ground up r = r
rule_map labels Var a C D Γ A ground up r = r
rule_map labels Nil a C D Γ A ground up r = r
rule_map labels Lam argument.Nothing C D Γ A ground up r = r
rule_map labels Lam (argument.Number n) C D Γ A ground up r = r
rule_map labels Lam (argument.Name n) C D Γ A ground up r =
    (r.0, r.1, r.2, up 0 (omega arith) (given n.0 r.0 Γ) r.1 (given_grounded labels n.0 r.0 Γ r.2 ground) r.3, r.4)
rule_map labels Lam (argument.Label l) C D Γ A ground up r = r
rule_map labels Fix a C D Γ A ground up r = up 0 (omega arith) Γ (fun A A) ground r
rule_map labels Sel argument.Nothing C D Γ A ground up r = r
rule_map labels Sel (argument.Number n) C D Γ A ground up r = r
rule_map labels Sel (argument.Name n) C D Γ A ground up r = r
rule_map labels Sel (argument.Label l) C D Γ A ground up r = (r.0, up 0 (omega arith) Γ (rec r.0) ground r.1, r.2)
rule_map labels App a C D Γ A ground up r = (r.0, up 0 (omega arith) Γ (fun r.0 A) ground r.1, up 1 (omega arith) Γ r.0 ground r.2)
rule_map labels Add a C D Γ A ground up r = (up 0 (omega arith) Γ num ground r.0, up 1 (omega arith) Γ num ground r.1, r.2)
rule_map labels Ext argument.Nothing C D Γ A ground up r = r
rule_map labels Ext (argument.Number n) C D Γ A ground up r = r
rule_map labels Ext (argument.Name n) C D Γ A ground up r = r
rule_map labels Ext (argument.Label l) C D Γ A ground up r =
    (r.0, r.1, up 0 (omega arith) Γ (rec r.0) ground r.2, up 1 (omega arith) Γ r.1 ground r.3, r.4)
rule_map labels Ifz a C D Γ A ground up r = (up 0 (omega arith) Γ num ground r.0, up 1 (omega arith) Γ A ground r.1, up 2 (omega arith) Γ A ground r.2)
