-- The draft of a node poses the problem of its kind over the forms of its children. Assumes nothing.
use Rattle.std.proofs.Common.{◌≡◌, ℕ, zero, suc, ◌+◌, ◌<◌, ◌≤◌, Bool, true, false, cond, List, [], ◌∷◌, map, length, get_or, set, replicate, sym, refl, ap, ◌∙◌, subst, ap₂, arith}
use Rattle.std.proofs.lemmas.List.{length-replicate}
use Rattle.syntax.specs.Arguments.{of_sort}
use Rattle.syntax.specs.Kinds.{arity, sort_of}
use Rattle.syntax.specs.declared.argument.Argument.{Argument}
use Rattle.syntax.specs.declared.kind.Kind.{Kind}
use Rattle.syntax.specs.declared.kind.Kind.TheVariants as kind
use Rattle.typing.specs.Cells.{Graph}
use Rattle.typing.specs.Constraints.{Joined, constraints, fresh, joined, label_of, name_of, type_at, type_of, width, without}
use Rattle.typing.specs.Forms.{Name, Form, same}
use Rattle.typing.specs.Layings.{Agree, Laid}
use Rattle.typing.specs.Posing.{Slotted, Poses}
use Rattle.typing.specs.Solutions.{Solves}
use Rattle.typing.specs.Solve.{Equations, Problem}
use Rattle.typing.specs.Terms.{Term, var, head, applied, num, fun, rec, absent, present, fill}
use Rattle.typing.specs.declared.cell.Cell.TheVariants.{Free as free}
use Rattle.typing.specs.declared.head.Head.{Head}
use Rattle.typing.specs.declared.head.Head.TheVariants.{Num, Fun, Rec, Absent, Present}
use Rattle.typing.proofs.Laying.{laid_more}
use Rattle.typing.proofs.NodeRule.{leafs}
use Rattle.typing.proofs.Records.{fill_applied}
use Rattle.typing.proofs.Solving.{free_tidy, free_solves}
use Rattle.inference.specs.Builds.{build}
use Rattle.inference.specs.Drafts.{State, SlotsWithin, CellsAre, CellsWithin, build_at, equate_at, add_forms}
use Rattle.inference.specs.Posed.{at, cells_from, children_at, drop_name, node_at}
use Rattle.inference.specs.Slots.{Slot}
use Rattle.inference.proofs.Building.{build_worth}
use Rattle.inference.proofs.Drafting.{Added, Joins, drafts_grow, drafts_put, forms_joined}

-- a cell of the graph that has the value of the term in every solution
abbrev Is : Graph → ℕ → Term → Type 0
Is g c t = (c < length g) × ((σ : ℕ → Term) → Solves σ g → σ c ≡ fill σ t)

abbrev Are : Graph → List ℕ → List Term → Type 0
Are g [] [] = Unit {0}
Are g [] (t ∷ ts) = ⊥
Are g (c ∷ cs) [] = ⊥
Are g (c ∷ cs) (t ∷ ts) = Is g c t × Are g cs ts

is_on : (g g' : Graph) (c : ℕ) (t : Term) → Laid g g' → Is g c t → Is g' c t
is_on g g' c t laid is = (omega (arith, is.0, laid.longer), λ σ solves. is.1 σ (laid.back σ solves))

are_within : (g : Graph) (cs : List ℕ) (ts : List Term) → Are g cs ts → CellsWithin (length g) cs
are_within g [] [] are = tt
are_within g [] (t ∷ ts) are = tt
are_within g (c ∷ cs) [] are = absurd are
are_within g (c ∷ cs) (t ∷ ts) are = (are.0.0, are_within g cs ts are.1)

are_values : (g : Graph) (cs : List ℕ) (ts : List Term) → Are g cs ts → (σ : ℕ → Term) → Solves σ g → map σ cs ≡ map (fill σ) ts
are_values g [] [] are σ solves = refl
are_values g [] (t ∷ ts) are σ solves = absurd are
are_values g (c ∷ cs) [] are σ solves = absurd are
are_values g (c ∷ cs) (t ∷ ts) are σ solves = ap₂ ◌∷◌ (are.0.1 σ solves) (are_values g cs ts are.1 σ solves)

are_from : (g : Graph) (cs : List ℕ) (ts : List Term) → length cs ≡ length ts → CellsWithin (length g) cs → ((σ : ℕ → Term) → Solves σ g → CellsAre σ cs ts) → Are g cs ts
are_from g [] [] long within are = tt
are_from g [] (t ∷ ts) long within are = absurd (omega (arith, long))
are_from g (c ∷ cs) [] long within are = absurd (omega (arith, long))
are_from g (c ∷ cs) (t ∷ ts) long within are =
    ((within.0, λ σ solves. (are σ solves).0), are_from g cs ts (omega (arith, long)) within.1 (λ σ solves. (are σ solves).1))

are_at : (g : Graph) (cs : List ℕ) (ts : List Term) → Are g cs ts → (j : ℕ) → j < length cs → Is g (at cs j) (get_or ts j num)
are_at g [] [] are j lt = absurd (omega (arith, lt))
are_at g [] (t ∷ ts) are j lt = absurd are
are_at g (c ∷ cs) [] are j lt = absurd are
are_at g (c ∷ cs) (t ∷ ts) are zero lt = are.0
are_at g (c ∷ cs) (t ∷ ts) are (suc j) lt = are_at g cs ts are.1 j (omega (arith, lt))

are_on : (g g' : Graph) (cs : List ℕ) (ts : List Term) → Laid g g' → Are g cs ts → Are g' cs ts
are_on g g' [] [] laid are = tt
are_on g g' [] (t ∷ ts) laid are = absurd are
are_on g g' (c ∷ cs) [] laid are = absurd are
are_on g g' (c ∷ cs) (t ∷ ts) laid are = (is_on g g' c t laid are.0, are_on g g' cs ts laid are.1)

-- the cells of variables, one of which may be replaced
fresh_are : (g : Graph) (n w : ℕ) → w + n ≤ length g → Are g (cells_from n w) (fresh n w)
fresh_are g zero w le = tt
fresh_are g (suc n) w le = ((omega (arith, le), λ σ solves. refl), fresh_are g n (w + 1) (omega (arith, le)))

set_are : (g : Graph) (cs : List ℕ) (ts : List Term) → Are g cs ts → (l c : ℕ) (t : Term) → Is g c t → Are g (set cs l c) (set ts l t)
set_are g [] [] are l c t is = tt
set_are g [] (u ∷ ts) are l c t is = absurd are
set_are g (d ∷ cs) [] are l c t is = absurd are
set_are g (d ∷ cs) (u ∷ ts) are zero c t is = (is, are.1)
set_are g (d ∷ cs) (u ∷ ts) are (suc l) c t is = (are.0, set_are g cs ts are.1 l c t is)

-- a head is built over cells
record Builds (es : List (Name × Term)) (qs : Equations) (g : Graph) (S : State) (T : State × ℕ) (t : Term) : Type 0 where
  added : Added es qs g T.0
  laid : Laid S.graph T.0.graph
  is : Is T.0.graph T.1 t

built : (es : List (Name × Term)) (qs : Equations) (g : Graph) (S : State) (h : Head) (cs : List ℕ) (ts : List Term) → Added es qs g S → Are S.graph cs ts → Builds es qs g S (build_at h cs S) (applied (head h) ts)
built es qs g S h cs ts A are =
    let worth = build_worth h cs S.graph A.drafts.tidy (are_within S.graph cs ts are) in
    let g' = (build h cs S.graph).0 in
    record { added = record { drafts = drafts_grow es qs S g' A.drafts worth.laid; laid = laid_more g S.graph g' A.laid worth.laid }; laid = worth.laid; is = (worth.inside, λ σ solves. worth.is σ solves ∙ ap (applied (head h)) (are_values S.graph cs ts are σ (worth.laid.back σ solves)) ∙ sym (fill_applied σ (head h) ts)) }

equated : (es : List (Name × Term)) (qs : Equations) (g : Graph) (S : State) (a b : ℕ) (t u : Term) → Added es qs g S → Is S.graph a t → Is S.graph b u → Added es ((t, u) ∷ qs) g (equate_at a b S)
equated es qs g S a b t u A is-a is_b =
    let d = A.drafts in
    record { drafts = record { tidy = d.tidy; within = (is-a.0, is_b.0, d.within); inside = d.inside; slotted = d.slotted; equal = λ σ solves h. (is-a.1 σ solves ∙ h.0 ∙ sym (is_b.1 σ solves), d.equal σ solves h.1); holds = λ σ solves q. (sym (is-a.1 σ solves) ∙ q.0 ∙ is_b.1 σ solves, d.holds σ solves q.1) }; laid = A.laid }

-- a name is dropped from slots as from entries
without_slotted : (σ : ℕ → Term) (n : Name) (ss : List Slot) (es : List (Name × Term)) → Slotted σ ss es → Slotted σ (without n ss) (without n es)
without_slotted σ n [] [] slotted = tt
without_slotted σ n [] (e ∷ es) slotted = absurd slotted
without_slotted σ n (s ∷ ss) [] slotted = absurd slotted
without_slotted σ n (s ∷ ss) (e ∷ es) slotted =
    subst (λ b. Slotted σ (cond b (without n ss) (s ∷ without n ss)) (without n (e ∷ es))) (sym (ap (same n) slotted.0)) (by_test (same n e.0) (without_slotted σ n ss es slotted.2))
  where
    by_test : (b : Bool) → Slotted σ (without n ss) (without n es) → Slotted σ (cond b (without n ss) (s ∷ without n ss)) (cond b (without n es) (e ∷ without n es))
    by_test true later = later
    by_test false later = (slotted.0, slotted.1, later)

without_inside : (m : ℕ) (n : Name) (ss : List Slot) → SlotsWithin m ss → SlotsWithin m (without n ss)
without_inside m n [] within = tt
without_inside m n (s ∷ ss) within = by_test (same n s.0) (without_inside m n ss within.1)
  where
    by_test : (b : Bool) → SlotsWithin m (without n ss) → SlotsWithin m (cond b (without n ss) (s ∷ without n ss))
    by_test true later = later
    by_test false later = (within.0, later)

type_value : (σ : ℕ → Term) (n : Name) (ss : List Slot) (es : List (Name × Term)) → Slotted σ ss es → (c : ℕ) (t : Term) → σ c ≡ fill σ t → σ (type_of n ss c) ≡ fill σ (type_of n es t)
type_value σ n [] [] slotted c t is = is
type_value σ n [] (e ∷ es) slotted c t is = absurd slotted
type_value σ n (s ∷ ss) [] slotted c t is = absurd slotted
type_value σ n (s ∷ ss) (e ∷ es) slotted c t is =
    subst (λ b. σ (cond b s.1 (type_of n ss c)) ≡ fill σ (type_of n (e ∷ es) t)) (sym (ap (same n) slotted.0)) (by_test (same n e.0) (type_value σ n ss es slotted.2 c t is))
  where
    by_test : (b : Bool) → σ (type_of n ss c) ≡ fill σ (type_of n es t) → σ (cond b s.1 (type_of n ss c)) ≡ fill σ (cond b e.1 (type_of n es t))
    by_test true later = slotted.1
    by_test false later = later

type_inside : (m : ℕ) (n : Name) (ss : List Slot) (c : ℕ) → SlotsWithin m ss → c < m → type_of n ss c < m
type_inside m n [] c within lt = lt
type_inside m n (s ∷ ss) c within lt = by_test (same n s.0) (type_inside m n ss c within.1 lt)
  where
    by_test : (b : Bool) → type_of n ss c < m → cond b s.1 (type_of n ss c) < m
    by_test true later = within.0
    by_test false later = later

dropped : (es : List (Name × Term)) (qs : Equations) (g : Graph) (S : State) (n : Name) → Added es qs g S → Added (without n es) qs g (drop_name n S)
dropped es qs g S n A =
    let d = A.drafts in
    record { drafts = record { tidy = d.tidy; within = d.within; inside = without_inside (length S.graph) n S.slots d.inside; slotted = λ σ solves. without_slotted σ n S.slots es (d.slotted σ solves); equal = d.equal; holds = d.holds }; laid = A.laid }

type_is : (es : List (Name × Term)) (qs : Equations) (g : Graph) (S : State) (n : Name) (c : ℕ) (t : Term) → Added es qs g S → Is S.graph c t → Is S.graph (type_of n S.slots c) (type_of n es t)
type_is es qs g S n c t A is =
    (type_inside (length S.graph) n S.slots c A.drafts.inside is.0, λ σ solves. type_value σ n S.slots es (A.drafts.slotted σ solves) c t (is.1 σ solves))

-- the draft of a problem over so many free cells
record Posing (free-cells : ℕ) (P : Problem) (T : State × ℕ) : Type 0 where
  few : P.unknowns ≤ free-cells
  added : Added P.form.entries P.equations (replicate free-cells free) T.0
  is : Is T.0.graph T.1 P.form.result

posing_poses : (n : ℕ) (P : Problem) (T : State × ℕ) → Posing n P T → Poses P T.0.graph T.0.pairs (record { entries = T.0.slots; result = T.1 })
posing_poses n P T posing =
    let d = posing.added.drafts in
    record { tidy = d.tidy; within = d.within; onto = λ ρ. onto ρ (posing.added.laid.onto ρ (free_solves n ρ)); equal = d.equal; holds = d.holds; entries = d.slotted; result = posing.is.1 }
  where
    onto : (ρ : ℕ → Term) → (τ : ℕ → Term) × Solves τ T.0.graph × Agree (length (replicate n free)) τ ρ → (σ : ℕ → Term) × Solves σ T.0.graph × ((k : ℕ) → k < P.unknowns → σ k ≡ ρ k)
    onto ρ on = (on.0, on.1, λ k lt. on.2 k (omega (arith, lt, posing.few, length-replicate n free)))

types_long : (base : ℕ) (Fs : List Form) → length (joined base Fs).types ≡ length Fs
types_long base [] = refl
types_long base (F ∷ Fs) = ap suc (types_long (base + width F) Fs)

pub cells_long : (base : ℕ) (Fs : List Form) (S : State) → length (add_forms base Fs S).1 ≡ length Fs
cells_long base [] S = refl
cells_long base (F ∷ Fs) S = ap suc (cells_long (base + width F) Fs S)

module _ (a : Argument) (Fs : List Form) where
  abbrev J : Joined
  J = joined 0 Fs

  abbrev w : ℕ
  w = J.unknowns

  abbrev S : State
  S = (children_at Fs).0

  abbrev ts : List ℕ
  ts = (children_at Fs).1

  abbrev start : Graph
  start = replicate (w + 5) free

  joins : Joins (length start) J start S ts
  joins = forms_joined 0 Fs start (free_tidy (w + 5)) (omega (arith, length-replicate (w + 5) free))

  added : Added J.entries J.equations start S
  added = record { drafts = joins.drafts; laid = joins.laid }

  long : w + 5 ≤ length S.graph
  long = omega (arith, length-replicate (w + 5) free, joins.laid.longer)

  own : Is S.graph w (var w)
  own = (omega (arith, long), λ σ solves. refl)

  child : (j : ℕ) → j < length Fs → Is S.graph (at ts j) (type_at J j)
  child j lt =
      let cells : length ts ≡ length Fs = cells_long 0 Fs _ in
      let are = are_from S.graph ts J.types (cells ∙ sym (types_long 0 Fs)) joins.inside joins.types in
      are_at S.graph ts J.types are j (omega (arith, lt, cells))

  abbrev Drafted : Kind → Type 0
  Drafted k = length Fs ≡ arity k → Posing (w + 5) (constraints 4 k a J) (node_at k a Fs)

  -- a head built over the cells of the children
  make : (h : Head) (cs : List ℕ) (us : List Term) → Are S.graph cs us → Builds J.entries J.equations start S (build_at h cs S) (applied (head h) us)
  make h cs us are = built J.entries J.equations start S h cs us added are

  hole_drafted : Drafted kind.Hole
  hole_drafted is = record { few = omega arith; added = added; is = own }

  num_drafted : Drafted kind.Num
  num_drafted is = let b = make Num [] [] tt in record { few = omega arith; added = b.added; is = b.is }

  nil_drafted : Drafted kind.Nil
  nil_drafted is =
      let none = make Absent [] [] tt in
      let T = build_at Absent [] S in
      let r = built J.entries J.equations start T.0 Rec (replicate 4 T.1) (replicate 4 absent) none.added (none.is, (none.is, (none.is, (none.is, tt)))) in
      record { few = omega arith; added = r.added; is = r.is }

  lam_drafted : Drafted kind.Lam
  lam_drafted is =
      let n = name_of a in
      let domain = type_is J.entries J.equations start S n w (var w) added own in
      let b = built (without n J.entries) J.equations start (drop_name n S) Fun (type_of n S.slots w ∷ at ts 0 ∷ []) (type_of n J.entries (var w) ∷ type_at J 0 ∷ []) (dropped J.entries J.equations start S n added) (domain, (child 0 (omega (arith, is)), tt)) in
      record { few = omega arith; added = b.added; is = b.is }

  -- the type of the first child is that of a cell that was built
  first_equated : (T : State × ℕ) (u : Term) → Builds J.entries J.equations start S T u → 0 < length Fs → Added J.entries ((type_at J 0, u) ∷ J.equations) start (equate_at (at ts 0) T.1 T.0)
  first_equated T u b lt = equated J.entries J.equations start T.0 (at ts 0) T.1 (type_at J 0) u b.added (is_on S.graph T.0.graph (at ts 0) (type_at J 0) b.laid (child 0 lt)) b.is

  fix_drafted : Drafted kind.Fix
  fix_drafted is =
      let b = make Fun (w ∷ w ∷ []) (var w ∷ var w ∷ []) (own, (own, tt)) in
      let T = build_at Fun (w ∷ w ∷ []) S in
      record { few = omega arith; added = first_equated T (fun (var w) (var w)) b (omega (arith, is)); is = is_on S.graph T.0.graph w (var w) b.laid own }

  app_drafted : Drafted kind.App
  app_drafted is =
      let b = make Fun (at ts 1 ∷ w ∷ []) (type_at J 1 ∷ var w ∷ []) (child 1 (omega (arith, is)), (own, tt)) in
      let T = build_at Fun (at ts 1 ∷ w ∷ []) S in
      record { few = omega arith; added = first_equated T (fun (type_at J 1) (var w)) b (omega (arith, is)); is = is_on S.graph T.0.graph w (var w) b.laid own }

  add_drafted : Drafted kind.Add
  add_drafted is =
      let b = make Num [] [] tt in
      let T = build_at Num [] S in
      let on : (j : ℕ) → j < length Fs → Is T.0.graph (at ts j) (type_at J j) = λ j lt. is_on S.graph T.0.graph (at ts j) (type_at J j) b.laid (child j lt) in
      let second = equated J.entries J.equations start T.0 (at ts 1) T.1 (type_at J 1) num b.added (on 1 (omega (arith, is))) b.is in
      record { few = omega arith; added = equated J.entries _ start _ (at ts 0) T.1 (type_at J 0) num second (on 0 (omega (arith, is))) b.is; is = b.is }

  ifz_drafted : Drafted kind.Ifz
  ifz_drafted is =
      let b = make Num [] [] tt in
      let T = build_at Num [] S in
      let on : (j : ℕ) → j < length Fs → Is T.0.graph (at ts j) (type_at J j) = λ j lt. is_on S.graph T.0.graph (at ts j) (type_at J j) b.laid (child j lt) in
      let branches = equated J.entries J.equations start T.0 (at ts 1) (at ts 2) (type_at J 1) (type_at J 2) b.added (on 1 (omega (arith, is))) (on 2 (omega (arith, is))) in
      record { few = omega arith; added = equated J.entries _ start _ (at ts 0) T.1 (type_at J 0) num branches (on 0 (omega (arith, is))) b.is; is = on 1 (omega (arith, is)) }

  sel_drafted : Drafted kind.Sel
  sel_drafted is =
      let p = make Present (w ∷ []) (var w ∷ []) (own, tt) in
      let T = build_at Present (w ∷ []) S in
      let places = set_are T.0.graph (cells_from 4 (w + 1)) (fresh 4 (w + 1)) (fresh_are T.0.graph 4 (w + 1) (omega (arith, long, p.laid.longer))) (label_of a) T.1 (present (var w)) p.is in
      let r = built J.entries J.equations start T.0 Rec (set (cells_from 4 (w + 1)) (label_of a) T.1) (set (fresh 4 (w + 1)) (label_of a) (present (var w))) p.added places in
      let U = build_at Rec (set (cells_from 4 (w + 1)) (label_of a) T.1) T.0 in
      let laid = laid_more S.graph T.0.graph U.0.graph p.laid r.laid in
      record { few = omega arith; added = first_equated U (rec (set (fresh 4 (w + 1)) (label_of a) (present (var w)))) (record { added = r.added; laid = laid; is = r.is }) (omega (arith, is)); is = is_on S.graph U.0.graph w (var w) laid own }

  ext_drafted : Drafted kind.Ext
  ext_drafted is =
      let all = fresh_are S.graph 4 w (omega (arith, long)) in
      let r = make Rec (cells_from 4 w) (fresh 4 w) all in
      let R = build_at Rec (cells_from 4 w) S in
      let p = built J.entries J.equations start R.0 Present (at ts 1 ∷ []) (type_at J 1 ∷ []) r.added (is_on S.graph R.0.graph (at ts 1) (type_at J 1) r.laid (child 1 (omega (arith, is))), tt) in
      let T = build_at Present (at ts 1 ∷ []) R.0 in
      let to-T = laid_more S.graph R.0.graph T.0.graph r.laid p.laid in
      let places = set_are T.0.graph (cells_from 4 w) (fresh 4 w) (are_on S.graph T.0.graph (cells_from 4 w) (fresh 4 w) to-T all) (label_of a) T.1 (present (type_at J 1)) p.is in
      let q = built J.entries J.equations start T.0 Rec (set (cells_from 4 w) (label_of a) T.1) (set (fresh 4 w) (label_of a) (present (type_at J 1))) p.added places in
      let U = build_at Rec (set (cells_from 4 w) (label_of a) T.1) T.0 in
      let old = is_on R.0.graph U.0.graph R.1 (rec (fresh 4 w)) (laid_more R.0.graph T.0.graph U.0.graph p.laid q.laid) r.is in
      record { few = omega arith; added = first_equated (U.0, R.1) (rec (fresh 4 w)) (record { added = q.added; laid = laid_more S.graph T.0.graph U.0.graph to-T q.laid; is = old }) (omega (arith, is)); is = q.is }

var_drafted : (a : Argument) → Drafted a [] kind.Var
var_drafted a is =
    let n = name_of a in
    record { few = omega arith; added = record { drafts = drafts_put [] [] (S a []) (n, 0) (n, var 0) (added a []).drafts (own a []).0 refl (own a []).1; laid = (added a []).laid }; is = own a [] }

node_drafted : (k : Kind) (a : Argument) (Fs : List Form) → Drafted a Fs k
node_drafted kind.Hole a Fs = hole_drafted a Fs
node_drafted kind.Num a Fs = num_drafted a Fs
node_drafted kind.Var a Fs = λ is. leafs (λ Gs. Drafted a Gs kind.Var) (var_drafted a) Fs is is
node_drafted kind.Nil a Fs = nil_drafted a Fs
node_drafted kind.Lam a Fs = lam_drafted a Fs
node_drafted kind.Fix a Fs = fix_drafted a Fs
node_drafted kind.Sel a Fs = sel_drafted a Fs
node_drafted kind.App a Fs = app_drafted a Fs
node_drafted kind.Add a Fs = add_drafted a Fs
node_drafted kind.Ext a Fs = ext_drafted a Fs
node_drafted kind.Ifz a Fs = ifz_drafted a Fs

pub node_poses : (k : Kind) (a : Argument) (Fs : List Form) → of_sort (sort_of k) a ≡ true → length Fs ≡ arity k → Poses (constraints 4 k a (joined 0 Fs)) (node_at k a Fs).0.graph (node_at k a Fs).0.pairs (record { entries = (node_at k a Fs).0.slots; result = (node_at k a Fs).1 })
node_poses k a Fs fit long = posing_poses ((joined 0 Fs).unknowns + 5) (constraints 4 k a (joined 0 Fs)) (node_at k a Fs) (node_drafted k a Fs long)

pub node_inside : (k : Kind) (a : Argument) (Fs : List Form) → of_sort (sort_of k) a ≡ true → length Fs ≡ arity k → SlotsWithin (length (node_at k a Fs).0.graph) (node_at k a Fs).0.slots × ((node_at k a Fs).1 < length (node_at k a Fs).0.graph)
node_inside k a Fs fit long = let posing = node_drafted k a Fs long in (posing.added.drafts.inside, posing.is.0)
