-- The draft of a node: what its kind asks of the cells of its children's types. Assumes nothing.
use Rattle.std.specs.Prelude.{ℕ, zero, suc, ◌+◌, List, [], ◌∷◌, replicate, slice_index, slice_set}
use Rattle.syntax.specs.declared.argument.Argument.{Argument}
use Rattle.syntax.specs.declared.kind.Kind.{Kind}
use Rattle.syntax.specs.declared.kind.Kind.TheVariants as kind
use Rattle.typing.specs.Constraints.{joined, label_of, name_of, type_of, without}
use Rattle.typing.specs.Forms.{Name, Form}
use Rattle.typing.specs.declared.head.Head.TheVariants.{Num, Fun, Rec, Absent, Present}
use Rattle.inference.specs.Drafts.{State, add_forms, build_at, equate_at, put_slot, unknowns}

-- the cells from w on
abbrev pub cells_from : ℕ → ℕ → List ℕ
cells_from zero w = []
cells_from (suc n) w = w ∷ cells_from n (w + 1)

abbrev pub at : List ℕ → ℕ → ℕ
at cells j = slice_index cells j

-- the name is no longer listed
abbrev pub drop_name : Name → State → State
drop_name n S = record { graph = S.graph; slots = without n S.slots; pairs = S.pairs }

-- What is left, and the cell of the node's type, where w is the first of the cells that no child has
-- and `ts` has the cells of the children's types.
abbrev pub constrain_at : Kind → Argument → ℕ → List ℕ → State → State × ℕ
constrain_at kind.Hole a w ts S = (S, w)
constrain_at kind.Num a w ts S = build_at Num [] S
constrain_at kind.Var a w ts S = (put_slot (name_of a, w) S, w)
constrain_at kind.Nil a w ts S =
    let none = build_at Absent [] S in
    build_at Rec (replicate 4 none.1) none.0
constrain_at kind.Lam a w ts S = build_at Fun (type_of (name_of a) S.slots w ∷ at ts 0 ∷ []) (drop_name (name_of a) S)
constrain_at kind.Fix a w ts S =
    let f = build_at Fun (w ∷ w ∷ []) S in
    (equate_at (at ts 0) f.1 f.0, w)
constrain_at kind.Sel a w ts S =
    let p = build_at Present (w ∷ []) S in
    let r = build_at Rec (slice_set (cells_from 4 (w + 1)) (label_of a) p.1) p.0 in
    (equate_at (at ts 0) r.1 r.0, w)
constrain_at kind.App a w ts S =
    let f = build_at Fun (at ts 1 ∷ w ∷ []) S in
    (equate_at (at ts 0) f.1 f.0, w)
constrain_at kind.Add a w ts S =
    let n = build_at Num [] S in
    (equate_at (at ts 0) n.1 (equate_at (at ts 1) n.1 n.0), n.1)
constrain_at kind.Ext a w ts S =
    let r = build_at Rec (cells_from 4 w) S in
    let p = build_at Present (at ts 1 ∷ []) r.0 in
    let q = build_at Rec (slice_set (cells_from 4 w) (label_of a) p.1) p.0 in
    (equate_at (at ts 0) r.1 q.0, q.1)
constrain_at kind.Ifz a w ts S =
    let n = build_at Num [] S in
    (equate_at (at ts 0) n.1 (equate_at (at ts 1) (at ts 2) n.0), at ts 1)

-- how many free cells there are beyond those of the children's variables
abbrev pub spare : ℕ
spare = 5

-- the children's forms, over free cells for their variables and a few more
abbrev pub children_at : List Form → State × List ℕ
children_at Fs = add_forms 0 Fs (unknowns ((joined 0 Fs).unknowns + spare))

-- the draft of a node over the forms of its children, and the cell of its type
abbrev pub node_at : Kind → Argument → List Form → State × ℕ
node_at k a Fs =
    let C = children_at Fs in
    constrain_at k a (joined 0 Fs).unknowns C.1 C.0
