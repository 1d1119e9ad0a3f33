-- The typing of a tree: it stands for just the pairs of the typing relation, and its counts are those
-- of its nodes. Assumes nothing.
use Rattle.std.proofs.Common.{◌≡◌, ℕ, zero, suc, ◌+◌, ◌<◌, ◌≤◌, min, true, List, [], ◌∷◌, map, length, sym, refl, ap, ◌∙◌, subst, arith}
use Rattle.syntax.specs.Arguments.{fits}
use Rattle.syntax.specs.Rules.{WellFormed}
use Rattle.syntax.specs.Kinds.{arity}
use Rattle.syntax.specs.Trees.{Forest, none, grow, Tree, node, count}
use Rattle.syntax.specs.declared.argument.Argument.TheVariants as argument
use Rattle.syntax.specs.declared.argument.Symbol.{Symbol}
use Rattle.syntax.specs.declared.kind.Kind.TheVariants.{Hole}
use Rattle.typing.specs.Forms.{Context, Grounded, Form, hole_form, Stands}
use Rattle.typing.specs.Judgements.{IsFormOf, Judges, GoodTypings, pairs_of}
use Rattle.typing.specs.Rules.{Pairs, Rule, Has, hole, with}
use Rattle.typing.specs.Strings.{Status, formed, clashed, overlong, Typing, GoodStatus, most}
use Rattle.typing.specs.Terms.{Term}
use Rattle.typing.specs.TreeTypings.{kept_or, mended, MostGeneral, clashes_in, overlongs_in, holes_in, Counted}
use Rattle.typing.specs.Typings.{form_of, is_clash, is_overlong, is_hole, total, node_status, node_typing, typings}
use Rattle.typing.proofs.Children.{hole_stands}
use Rattle.typing.proofs.Joining.{form_at}
use Rattle.typing.proofs.NodeRule.{rule_is_the_rules}
use Rattle.typing.proofs.Relation.{has_ground, HasAt, has_rule, rule_has, rule_map}

-- a form stands for just the pairs of a tree
record Same (labels : ℕ) (F : Form) (t : Tree Symbol) : Type 0 where
  onto : (Γ : Context) (A : Term) → Grounded labels Γ → Stands labels F Γ A → Has labels Γ t A
  back : (Γ : Context) (A : Term) → Grounded labels Γ → Has labels Γ t A → Stands labels F Γ A

abbrev Matches : ℕ → Forest Symbol → List Typing → Type 0
Matches labels none [] = Unit {0}
Matches labels none (T ∷ Ts) = ⊥
Matches labels (grow s c f) [] = ⊥
Matches labels (grow s c f) (T ∷ Ts) = Same labels (form_of T.status) (node s c) × Matches labels f Ts

abbrev forms : List Typing → List Form
forms Ts = map (λ T. form_of T.status) Ts

match_onto : (labels : ℕ) (c : Forest Symbol) (Ts : List Typing) → Matches labels c Ts → (j : ℕ) → j < count c → (Γ : Context) (A : Term) → Grounded labels Γ → Stands labels (form_at (forms Ts) j) Γ A → HasAt labels c j Γ A
match_onto labels none [] m j lt Γ A ground s = absurd (omega arith)
match_onto labels none (T ∷ Ts) m j lt Γ A ground s = absurd m
match_onto labels (grow s c f) [] m j lt Γ A ground st = absurd m
match_onto labels (grow s c f) (T ∷ Ts) m zero lt Γ A ground st = m.0.onto Γ A ground st
match_onto labels (grow s c f) (T ∷ Ts) m (suc j) lt Γ A ground st = match_onto labels f Ts m.1 j (omega arith) Γ A ground st

match_back : (labels : ℕ) (c : Forest Symbol) (Ts : List Typing) → Matches labels c Ts → (j : ℕ) → j < count c → (Γ : Context) (A : Term) → Grounded labels Γ → HasAt labels c j Γ A → Stands labels (form_at (forms Ts) j) Γ A
match_back labels none [] m j lt Γ A ground h = absurd (omega arith)
match_back labels none (T ∷ Ts) m j lt Γ A ground h = absurd m
match_back labels (grow s c f) [] m j lt Γ A ground h = absurd m
match_back labels (grow s c f) (T ∷ Ts) m zero lt Γ A ground h = m.0.back Γ A ground h
match_back labels (grow s c f) (T ∷ Ts) m (suc j) lt Γ A ground h = match_back labels f Ts m.1 j (omega arith) Γ A ground h

match_long : (labels : ℕ) (c : Forest Symbol) (Ts : List Typing) → Matches labels c Ts → length Ts ≡ count c
match_long labels none [] m = refl
match_long labels none (T ∷ Ts) m = absurd m
match_long labels (grow s c f) [] m = absurd m
match_long labels (grow s c f) (T ∷ Ts) m = ap suc (match_long labels f Ts m.1)

-- a node over children that match
module _ (labels : ℕ) (big : 4 ≤ labels) (s : Symbol) (fit : fits s ≡ true) (c : Forest Symbol) (len : count c ≡ arity s.kind) (Ts : List Typing) (m : Matches labels c Ts) where
  from_rule : (Γ : Context) (A : Term) → Grounded labels Γ → Rule labels s.kind s.argument (pairs_of labels Ts) Γ A → Has labels Γ (node s c) A
  from_rule Γ A ground r =
      rule_has labels Γ A s.kind s.argument fit c len (rule_map labels s.kind s.argument (pairs_of labels Ts) (HasAt labels c) Γ A ground (λ j lt Δ B g st. match_onto labels c Ts m j (omega (arith, lt, len)) Δ B g st) r)

  to_rule : (Γ : Context) (A : Term) → Grounded labels Γ → Has labels Γ (node s c) A → Rule labels s.kind s.argument (pairs_of labels Ts) Γ A
  to_rule Γ A ground h =
      rule_map labels s.kind s.argument (HasAt labels c) (pairs_of labels Ts) Γ A ground (λ j lt Δ B g h'. match_back labels c Ts m j (omega (arith, lt, len)) Δ B g h') (has_rule labels Γ (node s c) A h)

  node_form : (F : Form) → IsFormOf labels (Rule labels s.kind s.argument (pairs_of labels Ts)) F → IsFormOf labels (λ Γ A. Has labels Γ (node s c) A) F
  node_form F is =
      let i = is.inhabited in
      record { sound = is.sound; inhabited = record { context = i.context; of = i.of; grounded = i.grounded; ground = i.ground; holds = from_rule i.context i.of i.grounded i.holds }; onto = λ Γ A gΓ gA h. is.onto Γ A gΓ gA (to_rule Γ A gΓ h); back = λ Γ A st. from_rule Γ A st.context (is.back Γ A st) }

  node_judged : (q : Status) → Judges labels (Rule labels s.kind s.argument (pairs_of labels Ts)) q → Judges labels (λ Γ A. Has labels Γ (node s c) A) q
  node_judged (formed F) j = (node_form F j.0, j.1)
  node_judged clashed j = λ Γ A gΓ gA h. j Γ A gΓ gA (to_rule Γ A gΓ h)
  node_judged overlong j = (j.0, node_form j.0 j.1, j.2)

pub good_status : (labels : ℕ) (R : Pairs) (q : Status) → Judges labels R q → GoodStatus labels q
good_status labels R (formed F) j = record { sound = j.0.sound; short = j.1 }
good_status labels R clashed j = tt
good_status labels R overlong j = tt

-- a faulty tree is a hole
hole_same : (labels : ℕ) → Same labels hole_form (node (with Hole argument.Nothing) none)
hole_same labels = record { onto = λ Γ A gΓ st. hole st.ground; back = λ Γ A gΓ h. hole_stands labels Γ gΓ A (has_ground labels Γ (node (with Hole argument.Nothing) none) A h gΓ) }

kept_matches : (labels : ℕ) (s : Symbol) (c f : Forest Symbol) (T : Typing) (Ts : List Typing) (q : Status) → T.status ≡ q → Judges labels (λ Γ A. Has labels Γ (node s c) A) q → Matches labels f Ts → Matches labels (kept_or q s c f) (T ∷ Ts)
kept_matches labels s c f T Ts (formed F) is j m =
    (subst (λ q. Same labels (form_of q) (node s c)) (sym is) (record { onto = λ Γ A gΓ st. j.0.back Γ A st; back = λ Γ A gΓ h. j.0.onto Γ A gΓ (has_ground labels Γ (node s c) A h gΓ) h }), m)
kept_matches labels s c f T Ts clashed is j m = (subst (λ q. Same labels (form_of q) (node (with Hole argument.Nothing) none)) (sym is) (hole_same labels), m)
kept_matches labels s c f T Ts overlong is j m = (subst (λ q. Same labels (form_of q) (node (with Hole argument.Nothing) none)) (sym is) (hole_same labels), m)

count_kept : (q : Status) (s : Symbol) (c f : Forest Symbol) → count (kept_or q s c f) ≡ suc (count f)
count_kept (formed F) s c f = refl
count_kept clashed s c f = refl
count_kept overlong s c f = refl

count_mended : (labels : ℕ) (f : Forest Symbol) → count (mended labels f) ≡ count f
count_mended labels none = refl
count_mended labels (grow s c f) = count_kept (node_status labels s.kind s.argument (typings labels c)) s (mended labels c) (mended labels f) ∙ ap suc (count_mended labels f)

module _ (labels : ℕ) (big : 4 ≤ labels) where
  -- the node of a tree whose children match
  top : (s : Symbol) (c : Forest Symbol) → fits s ≡ true → count c ≡ arity s.kind → Matches labels (mended labels c) (typings labels c) → GoodTypings labels (typings labels c) → Judges labels (λ Γ A. Has labels Γ (node s (mended labels c)) A) (node_status labels s.kind s.argument (typings labels c))
  top s c fit len m good =
      let len' : count (mended labels c) ≡ arity s.kind = count_mended labels c ∙ len in
      node_judged labels big s fit (mended labels c) len' (typings labels c) m (node_status labels s.kind s.argument (typings labels c)) (rule_is_the_rules labels s (typings labels c) big fit (match_long labels (mended labels c) (typings labels c) m ∙ len') good)

  forest_matches : (f : Forest Symbol) → WellFormed f → Matches labels (mended labels f) (typings labels f) × GoodTypings labels (typings labels f)
  forest_matches none well = (tt, tt)
  forest_matches (grow s c f) well =
      let below = forest_matches c well.2 in
      let beside = forest_matches f well.3 in
      let j = top s c well.0 well.1 below.0 below.1 in
      (kept_matches labels s (mended labels c) (mended labels f) (node_typing labels s.kind s.argument (typings labels c)) (typings labels f) (node_status labels s.kind s.argument (typings labels c)) refl j beside.0, (record { clashes = omega arith; overlongs = omega arith; holes = omega arith; status = good_status labels (λ Γ A. Has labels Γ (node s (mended labels c)) A) (node_status labels s.kind s.argument (typings labels c)) j }, beside.1))

-- what well-formed trees alone give is good
pub good_typings : (labels : ℕ) → 4 ≤ labels → (f : Forest Symbol) → WellFormed f → GoodTypings labels (typings labels f)
good_typings labels big f well = (forest_matches labels big f well).1

pub most_general : MostGeneral
most_general labels (node s c) big well =
    let below = forest_matches labels big c well.2 in
    top labels big s c well.0 well.1 below.0 below.1

-- counts
capped_clashes : (labels : ℕ) (f : Forest Symbol) (x : ℕ) → min most (x + total (λ T. T.clashes) (typings labels f)) ≡ min most (x + clashes_in labels f)
capped_clashes labels none x = refl
capped_clashes labels (grow s c f) x =
    let q = is_clash (node_status labels s.kind s.argument (typings labels c)) in
    omega (arith, capped_clashes labels c q, capped_clashes labels f (x + (q + clashes_in labels c)))

capped_overlongs : (labels : ℕ) (f : Forest Symbol) (x : ℕ) → min most (x + total (λ T. T.overlongs) (typings labels f)) ≡ min most (x + overlongs_in labels f)
capped_overlongs labels none x = refl
capped_overlongs labels (grow s c f) x =
    let q = is_overlong (node_status labels s.kind s.argument (typings labels c)) in
    omega (arith, capped_overlongs labels c q, capped_overlongs labels f (x + (q + overlongs_in labels c)))

capped_holes : (labels : ℕ) (f : Forest Symbol) (x : ℕ) → min most (x + total (λ T. T.holes) (typings labels f)) ≡ min most (x + holes_in f)
capped_holes labels none x = refl
capped_holes labels (grow s c f) x =
    let q = is_hole s.kind in
    omega (arith, capped_holes labels c q, capped_holes labels f (x + (q + holes_in c)))

pub is_counted : Counted
is_counted labels (node s c) =
    let q = node_status labels s.kind s.argument (typings labels c) in
    record { clashes = omega (arith, capped_clashes labels c (is_clash q)); overlongs = omega (arith, capped_overlongs labels c (is_overlong q)); holes = omega (arith, capped_holes labels c (is_hole s.kind)) }
