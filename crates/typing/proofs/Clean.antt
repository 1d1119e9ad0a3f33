-- Closed and clean: the figures of a tree are all zero exactly if it is well typed in the empty
-- context. Assumes nothing.
use Rattle.std.proofs.Common.{◌≡◌, ℕ, zero, suc, ◌<◌, ◌≤◌, min, List, [], ◌∷◌, Some, None, sym, refl, ap, subst, ap₂, arith}
use Rattle.syntax.specs.Rules.{WellFormed}
use Rattle.syntax.specs.Kinds.{arity}
use Rattle.syntax.specs.Trees.{Forest, none, grow, Tree, node, count, alone}
use Rattle.syntax.specs.declared.argument.Argument.{Argument}
use Rattle.syntax.specs.declared.argument.Argument.TheVariants as argument
use Rattle.syntax.specs.declared.argument.Symbol.{Symbol}
use Rattle.syntax.specs.declared.kind.Kind.{Kind}
use Rattle.syntax.specs.declared.kind.Kind.TheVariants.{Hole, Num, Var, Nil, Lam, Fix, Sel, App, Add, Ext, Ifz}
use Rattle.typing.specs.Forms.{Name, Context, Grounded, Form, nothing, given, Agrees, Stands}
use Rattle.typing.specs.Judgements.{IsFormOf, Judges}
use Rattle.typing.specs.Rules.{Pairs, Rule, Has}
use Rattle.typing.specs.Strings.{Status, formed, clashed, overlong, Typing, most}
use Rattle.typing.specs.Terms.{Term, num, fun, rec, GroundType, fill}
use Rattle.typing.specs.TreeTypings.{kept_or, mended, tree_typing, clashes_in, overlongs_in, holes_in, Clean, WellTyped, Instance, ClosedAndClean}
use Rattle.typing.specs.Typings.{is_clash, is_overlong, node_status, typings}
use Rattle.typing.proofs.LamRule.{given_grounded}
use Rattle.typing.proofs.NodeRule.{form_inhabited}
use Rattle.typing.proofs.Relation.{has_ground, HasAt, has_rule}
use Rattle.typing.proofs.TreeRule.{most_general, is_counted}

pub nothing_grounded : (labels : ℕ) → Grounded labels nothing
nothing_grounded labels n A is = absurd (let z : ◌≡◌ {A = ℕ} 0 1 = cc in omega (arith, z))

-- a tree without faulty parts is kept as it is
kept_whole : (q : Status) (s : Symbol) (c c' f f' : Forest Symbol) → is_clash q ≡ 0 → is_overlong q ≡ 0 → c ≡ c' → f ≡ f' → kept_or q s c f ≡ grow s c' f'
kept_whole (formed F) s c c' f f' nc short ec ef = ap₂ (grow s) ec ef
kept_whole clashed s c c' f f' nc short ec ef = absurd (omega (arith, nc))
kept_whole overlong s c c' f f' nc short ec ef = absurd (omega (arith, short))

mended_whole : (labels : ℕ) (f : Forest Symbol) → clashes_in labels f ≡ 0 → overlongs_in labels f ≡ 0 → mended labels f ≡ f
mended_whole labels none nc short = refl
mended_whole labels (grow s c f) nc short =
    kept_whole (node_status labels s.kind s.argument (typings labels c)) s (mended labels c) c (mended labels f) f (omega (arith, nc)) (omega (arith, short)) (mended_whole labels c (omega (arith, nc)) (omega (arith, short))) (mended_whole labels f (omega (arith, nc)) (omega (arith, short)))

-- some pair
abbrev Typable : ℕ → Pairs → Type 0
Typable labels C = (Γ : Context) × (A : Term) × Grounded labels Γ × C Γ A

-- where a rule holds, each child has some pair
rule_children : (labels : ℕ) (k : Kind) (a : Argument) (C : ℕ → Pairs) (Γ : Context) (A : Term) → Grounded labels Γ → Rule labels k a C Γ A → (j : ℕ) → j < arity k → Typable labels (C j)
rule_children labels Hole a C Γ A ground r j lt = absurd (omega (arith, lt))
rule_children labels Num a C Γ A ground r j lt = absurd (omega (arith, lt))
rule_children labels Var a C Γ A ground r j lt = absurd (omega (arith, lt))
rule_children labels Nil a C Γ A ground r j lt = absurd (omega (arith, lt))
rule_children labels Lam argument.Nothing C Γ A ground r j lt = absurd r
rule_children labels Lam (argument.Number n) C Γ A ground r j lt = absurd r
rule_children labels Lam (argument.Name n) C Γ A ground r zero lt = (given n.0 r.0 Γ, r.1, given_grounded labels n.0 r.0 Γ r.2 ground, r.3)
rule_children labels Lam (argument.Name n) C Γ A ground r (suc j) lt = absurd (omega (arith, lt))
rule_children labels Lam (argument.Label l) C Γ A ground r j lt = absurd r
rule_children labels Fix a C Γ A ground r zero lt = (Γ, fun A A, ground, r)
rule_children labels Fix a C Γ A ground r (suc j) lt = absurd (omega (arith, lt))
rule_children labels Sel argument.Nothing C Γ A ground r j lt = absurd r
rule_children labels Sel (argument.Number n) C Γ A ground r j lt = absurd r
rule_children labels Sel (argument.Name n) C Γ A ground r j lt = absurd r
rule_children labels Sel (argument.Label l) C Γ A ground r zero lt = (Γ, rec r.0, ground, r.1)
rule_children labels Sel (argument.Label l) C Γ A ground r (suc j) lt = absurd (omega (arith, lt))
rule_children labels App a C Γ A ground r zero lt = (Γ, fun r.0 A, ground, r.1)
rule_children labels App a C Γ A ground r (suc zero) lt = (Γ, r.0, ground, r.2)
rule_children labels App a C Γ A ground r (suc (suc j)) lt = absurd (omega (arith, lt))
rule_children labels Add a C Γ A ground r zero lt = (Γ, num, ground, r.0)
rule_children labels Add a C Γ A ground r (suc zero) lt = (Γ, num, ground, r.1)
rule_children labels Add a C Γ A ground r (suc (suc j)) lt = absurd (omega (arith, lt))
rule_children labels Ext argument.Nothing C Γ A ground r j lt = absurd r
rule_children labels Ext (argument.Number n) C Γ A ground r j lt = absurd r
rule_children labels Ext (argument.Name n) C Γ A ground r j lt = absurd r
rule_children labels Ext (argument.Label l) C Γ A ground r zero lt = (Γ, rec r.0, ground, r.2)
rule_children labels Ext (argument.Label l) C Γ A ground r (suc zero) lt = (Γ, r.1, ground, r.3)
rule_children labels Ext (argument.Label l) C Γ A ground r (suc (suc j)) lt = absurd (omega (arith, lt))
rule_children labels Ifz a C Γ A ground r zero lt = (Γ, num, ground, r.0)
rule_children labels Ifz a C Γ A ground r (suc zero) lt = (Γ, A, ground, r.1)
rule_children labels Ifz a C Γ A ground r (suc (suc zero)) lt = (Γ, A, ground, r.2)
rule_children labels Ifz a C Γ A ground r (suc (suc (suc j))) lt = absurd (omega (arith, lt))

-- a node that has a pair, over children that are kept, is no clash
no_clash : (labels : ℕ) (R : Pairs) (q : Status) → Judges labels R q → (Γ : Context) (A : Term) → Grounded labels Γ → GroundType labels A → R Γ A → is_clash q ≡ 0
no_clash labels R (formed F) j Γ A gΓ gA r = refl
no_clash labels R clashed j Γ A gΓ gA r = absurd (j Γ A gΓ gA r)
no_clash labels R overlong j Γ A gΓ gA r = refl

module _ (labels : ℕ) (big : 4 ≤ labels) where
  -- Where every tree has a type in some context and none is overlong, there is no clash.
  unclashed : (f : Forest Symbol) → WellFormed f → overlongs_in labels f ≡ 0 → ((j : ℕ) → j < count f → Typable labels (HasAt labels f j)) → clashes_in labels f ≡ 0
  unclashed none well short each = refl
  unclashed (grow s c f) well short each =
      let here = each 0 (omega arith) in
      let rule = has_rule labels here.0 (node s c) here.1 here.3 in
      let below = unclashed c well.2 (omega (arith, short)) (λ j lt. rule_children labels s.kind s.argument (HasAt labels c) here.0 here.1 here.2 rule j (omega (arith, lt, well.1))) in
      let beside = unclashed f well.3 (omega (arith, short)) (λ j lt. each (suc j) (omega (arith, lt))) in
      let whole : mended labels c ≡ c = mended_whole labels c below (omega (arith, short)) in
      let judged = subst (λ d. Judges labels (λ Γ A. Has labels Γ (node s d) A) (node_status labels s.kind s.argument (typings labels c))) whole (most_general labels (node s c) big (well.0, well.1, well.2, tt)) in
      let own = no_clash labels (λ Γ A. Has labels Γ (node s c) A) (node_status labels s.kind s.argument (typings labels c)) judged here.0 here.1 here.2 (has_ground labels here.0 (node s c) here.1 here.3 here.2) here.3 in
      omega (arith, own, below, beside)

  module _ (s : Symbol) (c : Forest Symbol) (well : WellFormed (grow s c none)) where
    abbrev t : Tree Symbol
    t = node s c

    abbrev T : Typing
    T = tree_typing labels (node s c)

    figures : (n m : ℕ) → n ≡ min most m → n ≡ 0 → m ≡ 0
    figures n m e z = omega (arith, e, z)

    -- what the status says where nothing is faulty
    whole : clashes_in labels (alone t) ≡ 0 → overlongs_in labels (alone t) ≡ 0 → Judges labels (λ Γ A. Has labels Γ (node s c) A) T.status
    whole nc nl = subst (λ d. Judges labels (λ Γ A. Has labels Γ (node s d) A) T.status) (mended_whole labels c (omega (arith, nc)) (omega (arith, nl))) (most_general labels (node s c) big well)

    clean_form : (F : Form) → Clean T F → IsFormOf labels (λ Γ A. Has labels Γ (node s c) A) F
    clean_form F clean =
        let counts = is_counted labels (node s c) in
        let j = whole (figures T.clashes (clashes_in labels (alone t)) counts.clashes clean.clashes) (figures T.overlongs (overlongs_in labels (alone t)) counts.overlongs clean.overlongs) in
        (subst (Judges labels (λ Γ A. Has labels Γ (node s c) A)) clean.status j).0

    -- a form that lists no name stands for its ground instances in the empty context
    stands_nothing : (F : Form) → F.entries ≡ [] → (A : Term) → Instance labels F.result A → Stands labels F nothing A
    stands_nothing F empty A i = record { context = nothing_grounded labels; ground = i.ground; values = i.values; agrees = subst (λ es. Agrees i.values es nothing) (sym empty) tt; is = i.is }

    clean_typed : (F : Form) → Clean T F → WellTyped labels (node s c)
    clean_typed F clean =
        let is = clean_form F clean in
        let counts = is_counted labels (node s c) in
        let some = form_inhabited labels F is.sound in
        let st = some.2 in
        record { holes = figures T.holes (holes_in (alone t)) counts.holes clean.holes; overlongs = figures T.overlongs (overlongs_in labels (alone t)) counts.overlongs clean.overlongs; of = some.1; typed = is.back nothing some.1 (stands_nothing F clean.closed some.1 (record { ground = st.ground; values = st.values; is = st.is })) }

    listed_none : (ρ : ℕ → Term) (es : List (Name × Term)) → Agrees ρ es nothing → es ≡ []
    listed_none ρ [] a = refl
    listed_none ρ (e ∷ es) a = absurd (let wrong : None ≡ Some (fill ρ e.1) = a.0 in let z : ◌≡◌ {A = ℕ} 0 1 = cc in omega (arith, z))

    typed_clean : WellTyped labels (node s c) → (F : Form) × Clean T F
    typed_clean W = by_status T.status refl
      where
        unclashed_all : clashes_in labels (alone (node s c)) ≡ 0
        unclashed_all = unclashed (alone (node s c)) well W.overlongs each
          where
            each : (j : ℕ) → j < 1 → Typable labels (HasAt labels (alone (node s c)) j)
            each zero lt = (nothing, W.of, nothing_grounded labels, W.typed)
            each (suc j) lt = absurd (omega (arith, lt))

        judged : Judges labels (λ Γ A. Has labels Γ (node s c) A) (tree_typing labels (node s c)).status
        judged = whole unclashed_all W.overlongs

        by_status : (q : Status) → (tree_typing labels (node s c)).status ≡ q → (F : Form) × Clean (tree_typing labels (node s c)) F
        by_status (formed F) is =
            let j = subst (Judges labels (λ Γ A. Has labels Γ (node s c) A)) is judged in
            let st = j.0.onto nothing W.of (nothing_grounded labels) (has_ground labels nothing (node s c) W.of W.typed (nothing_grounded labels)) W.typed in
            let counts = is_counted labels (node s c) in
            (F, record { clashes = omega (arith, counts.clashes, unclashed_all); overlongs = omega (arith, counts.overlongs, W.overlongs); holes = omega (arith, counts.holes, W.holes); status = is; closed = listed_none st.values F.entries st.agrees })
        by_status clashed is = absurd (omega (arith, unclashed_all, ap is_clash is))
        by_status overlong is = absurd (omega (arith, W.overlongs, ap is_overlong is))

pub closed_and_clean : ClosedAndClean
closed_and_clean labels (node s c) big well = record { clean = typed_clean labels big s c well; typed = clean_typed labels big s c well; onto = onto; back = back }
  where
    onto : (F : Form) → Clean (tree_typing labels (node s c)) F → (A : Term) → Has labels nothing (node s c) A → Instance labels F.result A
    onto F clean A h =
        let ground = has_ground labels nothing (node s c) A h (nothing_grounded labels) in
        let st = (clean_form labels big s c well F clean).onto nothing A (nothing_grounded labels) ground h in
        record { ground = ground; values = st.values; is = st.is }

    back : (F : Form) → Clean (tree_typing labels (node s c)) F → (A : Term) → Instance labels F.result A → Has labels nothing (node s c) A
    back F clean A i = (clean_form labels big s c well F clean).back nothing A (stands_nothing labels big s c well F clean.closed A i)
