-- There is room for the draft of a node, whatever its children's strings tell. Assumes nothing.
use Rattle.std.proofs.Common.{◌≡◌, ℕ, suc, ◌+◌, ◌*◌, ◌≤◌, Bool, true, false, cond, List, [], ◌∷◌, ◌++◌, map, length, set, replicate, refl, arith, length-append, length-set}
use Rattle.std.proofs.lemmas.List.{length_push, length-replicate}
use Rattle.syntax.specs.Kinds.{arity}
use Rattle.syntax.specs.declared.argument.Argument.{Argument}
use Rattle.syntax.specs.declared.kind.Kind.{Kind}
use Rattle.syntax.specs.declared.kind.Kind.TheVariants as kind
use Rattle.typing.specs.Cells.{Graph}
use Rattle.typing.specs.Constraints.{insert, joined, label_of, name_of, type_of, width, without}
use Rattle.typing.specs.Forms.{Name, Form, same, entry_variables, form_variables}
use Rattle.typing.specs.Heads.{token_of}
use Rattle.typing.specs.Judgements.{GoodTypings}
use Rattle.typing.specs.Solve.{lay}
use Rattle.typing.specs.Strings.{Status, formed, clashed, overlong, Typing, GoodStatus, Rising, before, entries_bytes, term_bytes}
use Rattle.typing.specs.Terms.{Term, var, head, ◌·◌, variables}
use Rattle.typing.specs.Typings.{form_of}
use Rattle.typing.specs.declared.cell.Cell.TheVariants.{Free as free, Atom as atom, Apply as apply}
use Rattle.typing.specs.declared.head.Head.TheVariants.{Num, Fun, Rec, Absent, Present}
use Rattle.typing.proofs.StringReading.{name_long}
use Rattle.typing.proofs.TermReading.{group_long, term_long}
use Rattle.inference.specs.Drafts.{State, add_entries, add_form, add_forms, build_at, put_slot, unknowns, with_graph, Roomy}
use Rattle.inference.specs.Layouts.{shift}
use Rattle.inference.specs.Posed.{at, cells_from, children_at, constrain_at, node_at}
use Rattle.inference.specs.Slots.{Slot}
use Rattle.inference.proofs.Building.{build_longer}
use Rattle.inference.proofs.ChildFacts.{above_numbered, form_short}
use Rattle.inference.proofs.Drafting.{placed}
use Rattle.inference.proofs.DraftSteps.{insert_longer}

-- A term of n bytes has at most 2 · n - 1 tokens and applications, and takes a cell for each that is no variable.
lay_counts : (base : ℕ) (t : Term) (g : Graph) → length (lay (shift base t) g).0 + length (variables t) + 1 ≤ length g + 2 * length (term_bytes t)
lay_counts base (var k) g = omega (arith, group_long (5 + k))
lay_counts base (head h) g = omega (arith, group_long (token_of h), length_push g (atom h))
lay_counts base (f · x) g =
    let a = lay (shift base f) g in
    let b = lay (shift base x) a.0 in
    omega (arith, lay_counts base f g, lay_counts base x a.0, length_push b.0 (apply a.1 b.1), length-append (variables f) (variables x), length-append (term_bytes f) (term_bytes x))

-- a slot is listed, or gives a pair
insert_counts : (s : Slot) (ss : List Slot) → length (insert s ss).0 + length (insert s ss).1 ≡ suc (length ss)
insert_counts s [] = refl
insert_counts s (z ∷ ss) = by_tests (same s.0 z.0) (before s.0 z.0) (insert_counts s ss)
  where
    by_tests : (a b : Bool) → length (insert s ss).0 + length (insert s ss).1 ≡ suc (length ss) → length (placed a b s z ss (insert s ss)).0 + length (placed a b s z ss (insert s ss)).1 ≡ suc (suc (length ss))
    by_tests true b later = omega arith
    by_tests false true later = omega arith
    by_tests false false later = omega (arith, later)

-- how many cells and pairs there are
abbrev held : State → ℕ
held S = length S.graph + length S.pairs

-- so many more cells and pairs, and so many more entries
record Takes (S T : State) (n m : ℕ) : Type 0 where
  cells : held T ≤ held S + n
  names : length T.slots ≤ length S.slots + m

put_takes : (s : Slot) (S : State) → Takes S (put_slot s S) 1 1
put_takes s S =
    let one = insert_counts s S.slots in
    let more = length-append (insert s S.slots).1 S.pairs in
    let least = insert_longer s S.slots in
    record { cells = omega (arith, one, more, least); names = omega (arith, one) }

-- each entry has five bytes at least
entries_long : (es : List (Name × Term)) → Rising es → 5 * length es ≤ length (entries_bytes es)
entries_long [] rising = omega arith
entries_long (e ∷ es) rising =
    omega (arith, length-append e.0 (term_bytes e.1 ++ entries_bytes es), length-append (term_bytes e.1) (entries_bytes es), name_long e.0 rising.0, term_long e.1, entries_long es rising.2)

-- the cells of the entries, a pair for each, and their variables
entries_take : (base : ℕ) (es : List (Name × Term)) (S : State) → held (add_entries base es S) + length (entry_variables es) ≤ held S + 2 * length (entries_bytes es)
entries_take base [] S = omega arith
entries_take base (e ∷ es) S =
    let a = lay (shift base e.1) S.graph in
    let R = add_entries base es (with_graph S a.0) in
    omega (arith, (put_takes (e.0, a.1) R).cells, entries_take base es (with_graph S a.0), lay_counts base e.1 S.graph, length-append (variables e.1) (entry_variables es), length-append e.0 (term_bytes e.1 ++ entries_bytes es), length-append (term_bytes e.1) (entries_bytes es))

entries_listed : (base : ℕ) (es : List (Name × Term)) (S : State) → length (add_entries base es S).slots ≤ length S.slots + length es
entries_listed base [] S = omega arith
entries_listed base (e ∷ es) S =
    let a = lay (shift base e.1) S.graph in
    let R = add_entries base es (with_graph S a.0) in
    omega (arith, (put_takes (e.0, a.1) R).names, entries_listed base es (with_graph S a.0))

-- a form whose bytes are few
record Short (F : Form) : Type 0 where
  rising : Rising F.entries
  bytes : length (entries_bytes F.entries) + length (term_bytes F.result) ≤ 239
  narrow : width F ≤ length (form_variables F)

status_short : (s : Status) → GoodStatus 4 s → Short (form_of s)
status_short (formed F) good =
    record { rising = good.sound.rising; bytes = omega (arith, form_short F good, group_long (length F.entries)); narrow = omega (arith, above_numbered 0 (form_variables F) good.sound.numbered) }
status_short clashed good = record { rising = tt; bytes = omega arith; narrow = omega arith }
status_short overlong good = record { rising = tt; bytes = omega arith; narrow = omega arith }

form_takes : (base : ℕ) (F : Form) → Short F → (S : State) → (held (add_form base F S).0 + width F ≤ held S + 477) × (length (add_form base F S).0.slots ≤ length S.slots + 47)
form_takes base F short S =
    let E = add_entries base F.entries S in
    (omega (arith, short.bytes, short.narrow, entries_take base F.entries S, lay_counts base F.result E.graph, length-append (entry_variables F.entries) (variables F.result)), omega (arith, entries_listed base F.entries S, entries_long F.entries short.rising, short.bytes))

abbrev forms_of : List Typing → List Form
forms_of Ts = map (λ T. form_of T.status) Ts

forms_take : (base : ℕ) (Ts : List Typing) → GoodTypings 4 Ts → (S : State) → (held (add_forms base (forms_of Ts) S).0 + (joined base (forms_of Ts)).unknowns ≤ held S + base + 477 * length Ts) × (length (add_forms base (forms_of Ts) S).0.slots ≤ length S.slots + 47 * length Ts)
forms_take base [] good S = (omega arith, omega arith)
forms_take base (T ∷ Ts) good S =
    let F = form_of T.status in
    let later = forms_take (base + width F) Ts good.1 S in
    let mine = form_takes base F (status_short T.status good.0.status) (add_forms (base + width F) (forms_of Ts) S).0 in
    (omega (arith, later.0, mine.0), omega (arith, later.1, mine.1))

children_take : (Ts : List Typing) → GoodTypings 4 Ts → (held (children_at (forms_of Ts)).0 ≤ 5 + 477 * length Ts) × (length (children_at (forms_of Ts)).0.slots ≤ 47 * length Ts)
children_take Ts good =
    let n = (joined 0 (forms_of Ts)).unknowns in
    let all = forms_take 0 Ts good (unknowns (n + 5)) in
    (omega (arith, all.0, length-replicate (n + 5) free), omega (arith, all.1))

pub children_roomy : (Ts : List Typing) → length Ts ≤ 3 → GoodTypings 4 Ts → Roomy (children_at (forms_of Ts)).0
children_roomy Ts few good =
    let c = children_take Ts good in
    record { cells = omega (arith, c.0, few); entries = omega (arith, c.1, few); together = omega (arith, c.0, few) }

without_shorter : (n : Name) (ss : List Slot) → length (without n ss) ≤ length ss
without_shorter n [] = omega arith
without_shorter n (s ∷ ss) = by_test (same n s.0) (without_shorter n ss)
  where
    by_test : (b : Bool) → length (without n ss) ≤ length ss → length (cond b (without n ss) (s ∷ without n ss)) ≤ suc (length ss)
    by_test true le = omega (arith, le)
    by_test false le = omega (arith, le)

-- the cells and pairs that a kind takes of its own
abbrev share : Kind → ℕ
share kind.Hole = 0
share kind.Num = 1
share kind.Var = 1
share kind.Nil = 6
share kind.Lam = 3
share kind.Fix = 4
share kind.Sel = 8
share kind.App = 4
share kind.Add = 3
share kind.Ext = 13
share kind.Ifz = 3

constrained_takes : (k : Kind) (a : Argument) (w : ℕ) (ts : List ℕ) (S : State) → Takes S (constrain_at k a w ts S).0 (share k) 1
constrained_takes kind.Hole a w ts S = record { cells = omega arith; names = omega arith }
constrained_takes kind.Num a w ts S = record { cells = omega (arith, build_longer Num [] S.graph); names = omega arith }
constrained_takes kind.Var a w ts S = put_takes (name_of a, w) S
constrained_takes kind.Nil a w ts S =
    let none = build_at Absent [] S in
    record { cells = omega (arith, build_longer Absent [] S.graph, build_longer Rec (replicate 4 none.1) none.0.graph); names = omega arith }
constrained_takes kind.Lam a w ts S =
    record { cells = omega (arith, build_longer Fun (type_of (name_of a) S.slots w ∷ at ts 0 ∷ []) S.graph); names = omega (arith, without_shorter (name_of a) S.slots) }
constrained_takes kind.Fix a w ts S = record { cells = omega (arith, build_longer Fun (w ∷ w ∷ []) S.graph); names = omega arith }
constrained_takes kind.Sel a w ts S =
    let p = build_at Present (w ∷ []) S in
    let places = set (cells_from 4 (w + 1)) (label_of a) p.1 in
    let four : length places ≡ 4 = length-set (cells_from 4 (w + 1)) (label_of a) p.1 in
    record { cells = omega (arith, four, build_longer Present (w ∷ []) S.graph, build_longer Rec places p.0.graph); names = omega arith }
constrained_takes kind.App a w ts S = record { cells = omega (arith, build_longer Fun (at ts 1 ∷ w ∷ []) S.graph); names = omega arith }
constrained_takes kind.Add a w ts S = record { cells = omega (arith, build_longer Num [] S.graph); names = omega arith }
constrained_takes kind.Ext a w ts S =
    let r = build_at Rec (cells_from 4 w) S in
    let p = build_at Present (at ts 1 ∷ []) r.0 in
    let places = set (cells_from 4 w) (label_of a) p.1 in
    let four : length places ≡ 4 = length-set (cells_from 4 w) (label_of a) p.1 in
    record { cells = omega (arith, four, build_longer Rec (cells_from 4 w) S.graph, build_longer Present (at ts 1 ∷ []) r.0.graph, build_longer Rec places p.0.graph); names = omega arith }
constrained_takes kind.Ifz a w ts S = record { cells = omega (arith, build_longer Num [] S.graph); names = omega arith }

-- a kind with three children takes few cells of its own
share_small : (k : Kind) → (share k + 477 * arity k ≤ 1434) × (arity k ≤ 3)
share_small kind.Hole = (omega arith, omega arith)
share_small kind.Num = (omega arith, omega arith)
share_small kind.Var = (omega arith, omega arith)
share_small kind.Nil = (omega arith, omega arith)
share_small kind.Lam = (omega arith, omega arith)
share_small kind.Fix = (omega arith, omega arith)
share_small kind.Sel = (omega arith, omega arith)
share_small kind.App = (omega arith, omega arith)
share_small kind.Add = (omega arith, omega arith)
share_small kind.Ext = (omega arith, omega arith)
share_small kind.Ifz = (omega arith, omega arith)

pub node_roomy : (k : Kind) (a : Argument) (Ts : List Typing) → length Ts ≡ arity k → GoodTypings 4 Ts → Roomy (node_at k a (map (λ T. form_of T.status) Ts)).0
node_roomy k a Ts long good =
    let C = children_at (forms_of Ts) in
    let own = constrained_takes k a (joined 0 (forms_of Ts)).unknowns C.1 C.0 in
    let children = children_take Ts good in
    let together : held (node_at k a (forms_of Ts)).0 ≤ 1440 = omega (arith, own.cells, children.0, (share_small k).0, long) in
    record { cells = omega (arith, together); entries = omega (arith, own.names, children.1, (share_small k).1, long); together = together }
