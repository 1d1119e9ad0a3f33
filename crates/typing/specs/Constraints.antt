-- The equations of each kind of node over the forms of its children. Computes. Assumes nothing.
use Rattle.std.specs.Prelude.{ℕ, zero, suc, ◌+◌, max, cond, List, [], ◌∷◌, ◌++◌, replicate, slice_index_or, slice_set}
use Rattle.syntax.specs.Labels.{label_code}
use Rattle.syntax.specs.declared.argument.Argument.{Argument}
use Rattle.syntax.specs.declared.argument.Argument.TheVariants as argument
use Rattle.syntax.specs.declared.kind.Kind.{Kind}
use Rattle.syntax.specs.declared.kind.Kind.TheVariants.{Hole, Num, Var, Nil, Lam, Fix, Sel, App, Add, Ext, Ifz}
use Rattle.typing.specs.Forms.{Name, Form, same, form_variables}
use Rattle.typing.specs.Solve.{Equations, Problem, filled}
use Rattle.typing.specs.Strings.{before}
use Rattle.typing.specs.Terms.{Term, var, num, fun, rec, absent, present}

abbrev pub name_of : Argument → Name
name_of argument.Nothing = []
name_of (argument.Number n) = []
name_of (argument.Name n) = n.0
name_of (argument.Label l) = []

abbrev pub label_of : Argument → ℕ
label_of argument.Nothing = 0
label_of (argument.Number n) = 0
label_of (argument.Name n) = 0
label_of (argument.Label l) = label_code l

-- An entry is a name with something: with a term, or with the cell of one. One put in its place; a name
-- that is there already gives a pair that has to be equal.
abbrev pub insert : {A : Type 0} → Name × A → List (Name × A) → List (Name × A) × List (A × A)
insert e [] = (e ∷ [], [])
insert e (f ∷ es) =
    let rest = insert e es in
    cond (same e.0 f.0) (f ∷ es, (f.1, e.1) ∷ []) (cond (before e.0 f.0) (e ∷ f ∷ es, []) (f ∷ rest.0, rest.1))

abbrev pub Entries : Type 0
Entries = List (Name × Term)

abbrev pub insert_all : Entries → Entries → Entries × Equations
insert_all [] fs = (fs, [])
insert_all (e ∷ es) fs =
    let rest = insert_all es fs in
    let put = insert e rest.0 in
    (put.0, put.1 ++ rest.1)

abbrev pub without : {A : Type 0} → Name → List (Name × A) → List (Name × A)
without n [] = []
without n (e ∷ es) = cond (same n e.0) (without n es) (e ∷ without n es)

-- what a name is listed with, as its type, or what is at hand if the name is not listed
abbrev pub type_of : {A : Type 0} → Name → List (Name × A) → A → A
type_of n [] other = other
type_of n (e ∷ es) other = cond (same n e.0) e.1 (type_of n es other)

-- so many variables from w on
abbrev pub fresh : ℕ → ℕ → List Term
fresh zero w = []
fresh (suc n) w = var w ∷ fresh n (w + 1)

-- the least number that is above these
abbrev pub above : List ℕ → ℕ
above [] = 0
above (k ∷ ks) = max (k + 1) (above ks)

-- how many variables a form has that numbers them from 0
abbrev pub width : Form → ℕ
width F = above (form_variables F)

abbrev pub shifted : ℕ → Form → Form
shifted w F = filled (λ k. var (w + k)) F

-- The forms of some children over variables of their own: their entries, the equations between those
-- of one name, and their types.
pub record Joined : Type 0 where
  pub unknowns : ℕ
  pub entries : Entries
  pub equations : Equations
  pub types : List Term

abbrev pub joined : ℕ → List Form → Joined
joined w [] = record { unknowns = w; entries = []; equations = []; types = [] }
joined w (F ∷ Fs) =
    let mine = shifted w F in
    let rest = joined (w + width F) Fs in
    let both = insert_all mine.entries rest.entries in
    record { unknowns = rest.unknowns; entries = both.0; equations = both.1 ++ rest.equations; types = mine.result ∷ rest.types }

abbrev pub type_at : Joined → ℕ → Term
type_at J k = slice_index_or J.types k num

-- a problem with this many more variables, these further equations, and this type
abbrev pub posed : Joined → ℕ → Equations → Term → Problem
posed J extra es t = record { unknowns = J.unknowns + extra; equations = es ++ J.equations; form = record { entries = J.entries; result = t } }

-- the problem of a node, where there are so many labels
abbrev pub constraints : ℕ → Kind → Argument → Joined → Problem
constraints labels Hole a J = posed J 1 [] (var J.unknowns)
constraints labels Num a J = posed J 0 [] num
constraints labels Var a J =
    record { unknowns = J.unknowns + 1; equations = J.equations; form = record { entries = (name_of a, var J.unknowns) ∷ J.entries; result = var J.unknowns } }
constraints labels Nil a J = posed J 0 [] (rec (replicate labels absent))
constraints labels Lam a J =
    record { unknowns = J.unknowns + 1; equations = J.equations; form = record { entries = without (name_of a) J.entries; result = fun (type_of (name_of a) J.entries (var J.unknowns)) (type_at J 0) } }
constraints labels Fix a J =
    let w = var J.unknowns in
    posed J 1 ((type_at J 0, fun w w) ∷ []) w
constraints labels Sel a J =
    let w = var J.unknowns in
    posed J (labels + 1) ((type_at J 0, rec (slice_set (fresh labels (J.unknowns + 1)) (label_of a) (present w))) ∷ []) w
constraints labels App a J =
    let w = var J.unknowns in
    posed J 1 ((type_at J 0, fun (type_at J 1) w) ∷ []) w
constraints labels Add a J = posed J 0 ((type_at J 0, num) ∷ (type_at J 1, num) ∷ []) num
constraints labels Ext a J =
    let places = fresh labels J.unknowns in
    posed J labels ((type_at J 0, rec places) ∷ []) (rec (slice_set places (label_of a) (present (type_at J 1))))
constraints labels Ifz a J = posed J 0 ((type_at J 0, num) ∷ (type_at J 1, type_at J 2) ∷ []) (type_at J 1)
