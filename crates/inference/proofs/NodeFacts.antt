-- A node over lawful strings: its draft is ready, and what it comes to is the rule's. Assumes nothing.
use Rattle.std.proofs.Common.{◌≡◌, ℕ, zero, suc, ◌+◌, ◌<◌, ◌≤◌, min, List, [], ◌∷◌, ◌++◌, length, drop, sym, refl, ap, ◌∙◌, subst, ap₂, arith}
use Rattle.std.proofs.lemmas.List.{length-map}
use Rattle.syntax.specs.Kinds.{arity}
use Rattle.syntax.specs.declared.argument.Argument.{Argument}
use Rattle.syntax.specs.declared.argument.Symbol.{Symbol}
use Rattle.syntax.specs.declared.kind.Kind.{Kind}
use Rattle.syntax.specs.declared.kind.Kind.TheVariants as kind
use Rattle.typing.specs.Cells.{unify}
use Rattle.typing.specs.Constraints.{constraints, joined}
use Rattle.typing.specs.Forms.{Form}
use Rattle.typing.specs.Posing.{finished_at}
use Rattle.typing.specs.Solve.{solve}
use Rattle.typing.specs.Strings.{Typing, most}
use Rattle.typing.specs.Typings.{is_hole, rule}
use Rattle.typing.proofs.NodeRule.{ruled, typings_children}
use Rattle.typing.proofs.Posing.{any_graph_solves}
use Rattle.inference.specs.Drafts.{State, unknowns, Roomy}
use Rattle.inference.specs.Joins.{Begins, all_at, forms_of}
use Rattle.inference.specs.Nodes.{Ready, Lawful}
use Rattle.inference.specs.Outcomes.{Outcome, Concludes, clash_of, overlong_of}
use Rattle.inference.specs.Posed.{at, constrain_at, node_at, spare}
use Rattle.inference.specs.Tallies.{read_all, Totals}
use Rattle.inference.specs.TypingStrings.{string_of}
use Rattle.forms.specs.declared.outline.Tally.{Tally}
use Rattle.inference.proofs.NodePosed.{cells_long, node_poses, node_inside}
use Rattle.inference.proofs.TypingText.{counts_node, string_is}
use Rattle.inference.proofs.NodeRoom.{node_roomy, children_roomy}

pub arity_few : (k : Kind) → arity k ≤ 3
arity_few kind.Hole = omega arith
arity_few kind.Num = omega arith
arity_few kind.Var = omega arith
arity_few kind.Nil = omega arith
arity_few kind.Lam = omega arith
arity_few kind.Fix = omega arith
arity_few kind.Sel = omega arith
arity_few kind.App = omega arith
arity_few kind.Add = omega arith
arity_few kind.Ext = omega arith
arity_few kind.Ifz = omega arith

-- a node asks only for the cells of its children
begins_at : (cs types : List ℕ) → Begins cs types → (j : ℕ) → j < length cs → at types j ≡ at cs j
begins_at [] types begins j lt = absurd (omega arith)
begins_at (c ∷ cs) [] begins j lt = absurd begins
begins_at (c ∷ cs) (x ∷ types) begins zero lt = begins.0
begins_at (c ∷ cs) (x ∷ types) begins (suc j) lt = begins_at cs types begins.1 j (omega arith)

pub constrain_begins : (k : Kind) (a : Argument) (w : ℕ) (cs types : List ℕ) (S : State) → length cs ≡ arity k → Begins cs types → constrain_at k a w types S ≡ constrain_at k a w cs S
constrain_begins kind.Hole a w cs types S long b = refl
constrain_begins kind.Num a w cs types S long b = refl
constrain_begins kind.Var a w cs types S long b = refl
constrain_begins kind.Nil a w cs types S long b = refl
constrain_begins kind.Lam a w cs types S long b = ap (λ x. constrain_at kind.Lam a w (x ∷ []) S) (begins_at cs types b 0 (omega (arith, long)))
constrain_begins kind.Fix a w cs types S long b = ap (λ x. constrain_at kind.Fix a w (x ∷ []) S) (begins_at cs types b 0 (omega (arith, long)))
constrain_begins kind.Sel a w cs types S long b = ap (λ x. constrain_at kind.Sel a w (x ∷ []) S) (begins_at cs types b 0 (omega (arith, long)))
constrain_begins kind.App a w cs types S long b =
    ap₂ (λ x y. constrain_at kind.App a w (x ∷ y ∷ []) S) (begins_at cs types b 0 (omega (arith, long))) (begins_at cs types b 1 (omega (arith, long)))
constrain_begins kind.Add a w cs types S long b =
    ap₂ (λ x y. constrain_at kind.Add a w (x ∷ y ∷ []) S) (begins_at cs types b 0 (omega (arith, long))) (begins_at cs types b 1 (omega (arith, long)))
constrain_begins kind.Ext a w cs types S long b =
    ap₂ (λ x y. constrain_at kind.Ext a w (x ∷ y ∷ []) S) (begins_at cs types b 0 (omega (arith, long))) (begins_at cs types b 1 (omega (arith, long)))
constrain_begins kind.Ifz a w cs types S long b =
    ap₂ (λ x y. constrain_at kind.Ifz a w (x ∷ y ∷ at types 2 ∷ []) S) (begins_at cs types b 0 (omega (arith, long))) (begins_at cs types b 1 (omega (arith, long)))
    ∙ ap (λ z. constrain_at kind.Ifz a w (at cs 0 ∷ at cs 1 ∷ z ∷ []) S) (begins_at cs types b 2 (omega (arith, long)))

module _ (s : Symbol) (strings : List (List ℕ)) (lawful : Lawful s strings) where
  abbrev pub Ts : List Typing
  Ts = read_all strings

  abbrev pub Fs : List Form
  Fs = forms_of (read_all strings)

  typings_long : length Ts ≡ arity s.kind
  typings_long = length-map strings _ ∙ lawful.count

  forms_long : length Fs ≡ arity s.kind
  forms_long = length-map Ts _ ∙ typings_long

  pub few : length strings ≤ 3
  few = omega (arith, lawful.count, arity_few s.kind)

  pub room_children : Roomy (all_at 0 Fs).0
  room_children = children_roomy Ts (omega (arith, typings_long, arity_few s.kind)) lawful.good

  pub room_node : Roomy (node_at s.kind s.argument Fs).0
  room_node = node_roomy s.kind s.argument Ts typings_long lawful.good

  -- what the kind asks, of the cells that were found
  pub node_is : (S : State) (w : ℕ) (types : List ℕ) → w ≡ (joined 0 Fs).unknowns → S ≡ (all_at 0 Fs).0 → Begins (all_at 0 Fs).1 types → constrain_at s.kind s.argument w types S ≡ node_at s.kind s.argument Fs
  node_is S w types w-is S-is begins =
      ap₂ (λ k T. constrain_at s.kind s.argument k types T) w-is S-is ∙ constrain_begins s.kind s.argument (joined 0 Fs).unknowns (all_at 0 Fs).1 types (all_at 0 Fs).0 (cells_long 0 Fs (unknowns ((joined 0 Fs).unknowns + spare)) ∙ forms_long) begins

  pub ready : (S : State) (c : ℕ) → S ≡ (node_at s.kind s.argument Fs).0 → c ≡ (node_at s.kind s.argument Fs).1 → Ready S c
  ready S c S-is c-is =
      let p = node_poses s.kind s.argument Fs lawful.fit forms_long in
      let i = node_inside s.kind s.argument Fs lawful.fit forms_long in
      subst (λ T. Ready T c) (sym S-is) (subst (Ready (node_at s.kind s.argument Fs).0) (sym c-is) (record { tidy = p.tidy; within = p.within; inside = i.0; result_inside = i.1; roomy = room_node }))

  pub concludes : (S : State) (c : ℕ) (o : Outcome) → S ≡ (node_at s.kind s.argument Fs).0 → c ≡ (node_at s.kind s.argument Fs).1 → Concludes (finished_at (record { entries = S.slots; result = c }) (unify S.graph S.pairs)) o → Concludes (solve (constraints 4 s.kind s.argument (joined 0 Fs))) o
  concludes S c o S-is c-is ends =
      let N = node_at s.kind s.argument Fs in
      let p = node_poses s.kind s.argument Fs lawful.fit forms_long in
      let R = ruled 4 (omega arith) s.kind s.argument lawful.fit Fs forms_long (typings_children 4 Ts lawful.good) in
      let found = any_graph_solves (constraints 4 s.kind s.argument (joined 0 Fs)) R.posed N.0.graph N.0.pairs (record { entries = N.0.slots; result = N.1 }) p in
      let at-node = subst (λ T. Concludes (finished_at (record { entries = T.slots; result = N.1 }) (unify T.graph T.pairs)) o) S-is (subst (λ d. Concludes (finished_at (record { entries = S.slots; result = d }) (unify S.graph S.pairs)) o) c-is ends) in
      subst (λ q. Concludes q o) found at-node

  -- the node, once its children are there
  module _ (S : State) (w : ℕ) (types : List ℕ) (added : (w ≡ (joined 0 Fs).unknowns) × (S ≡ (all_at 0 Fs).0) × Begins (all_at 0 Fs).1 types) where
    same : constrain_at s.kind s.argument w types S ≡ node_at s.kind s.argument Fs
    same = node_is S w types added.0 added.1 added.2

    pub room_now : Roomy (constrain_at s.kind s.argument w types S).0
    room_now = subst (λ p. Roomy p.0) (sym same) room_node

    pub ready_now : (S' : State) (c : ℕ) → (S' ≡ (constrain_at s.kind s.argument w types S).0) × (c ≡ (constrain_at s.kind s.argument w types S).1) → Ready S' c
    ready_now S' c is = ready S' c (is.0 ∙ ap (λ p. p.0) same) (is.1 ∙ ap (λ p. p.1) same)

    pub concludes_now : (S' : State) (c : ℕ) (o : Outcome) → (S' ≡ (constrain_at s.kind s.argument w types S).0) × (c ≡ (constrain_at s.kind s.argument w types S).1) → Concludes (finished_at (record { entries = S'.slots; result = c }) (unify S'.graph S'.pairs)) o → Concludes (solve (constraints 4 s.kind s.argument (joined 0 Fs))) o
    concludes_now S' c o is = concludes S' c o (is.0 ∙ ap (λ p. p.0) same) (is.1 ∙ ap (λ p. p.1) same)

-- the string that is written is the rule's
pub rule_written : (s : Symbol) (strings : List (List ℕ)) (o : Outcome) (sums t : Tally) (n : ℕ) (before after : List ℕ) → Concludes (solve (constraints 4 s.kind s.argument (joined 0 (forms_of (read_all strings))))) o → Totals (read_all strings) sums → t.clashes ≡ min most (clash_of o + sums.clashes) → t.overlongs ≡ min most (overlong_of o + sums.overlongs) → t.holes ≡ min most (is_hole s.kind + sums.holes) → n ≡ length (string_of o t) → after ≡ string_of o t ++ drop n before → (n ≡ length (rule 4 s.kind s.argument strings)) × (after ≡ rule 4 s.kind s.argument strings ++ drop n before)
rule_written s strings o sums t n before after ends totals c v h long wrote =
    let P = constraints 4 s.kind s.argument (joined 0 (forms_of (read_all strings))) in
    let counts = counts_node s.kind (solve P) (read_all strings) o sums t ends totals c v h in
    let is : string_of o t ≡ rule 4 s.kind s.argument strings = string_is s.kind (solve P) (read_all strings) o t ends counts in
    (long ∙ ap length is, wrote ∙ ap (λ bs. bs ++ drop n before) is)
