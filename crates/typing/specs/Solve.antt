-- Solving equations between terms, and the form that the solution gives. Computes. Assumes nothing.
use Rattle.std.specs.Prelude.{ℕ, suc, Bool, false, cond, ◌||◌, List, [], ◌∷◌, ◌++◌, length, replicate, Some, None, Option, ◌==◌}
use Rattle.typing.specs.Cells.{Graph, Pairs, free, atom, apply, unify, acyclic, term_of}
use Rattle.typing.specs.Forms.{Name, Form, form_variables}
use Rattle.typing.specs.Terms.{Term, var, head, ◌·◌, fill}

abbrev pub Equations : Type 0
Equations = List (Term × Term)

-- equations over the variables below `unknowns`, and a form over the same variables
pub record Problem : Type 0 where
  pub unknowns : ℕ
  pub equations : Equations
  pub form : Form

-- A term is laid out behind the cells there are: the new graph, and the cell of the term. The cell of
-- a variable is the one with its number.
abbrev pub lay : Term → Graph → Graph × ℕ
lay (var k) g = (g, k)
lay (head h) g = (g ++ atom h ∷ [], length g)
lay (f · x) g =
    let a = lay f g in
    let b = lay x a.0 in
    (b.0 ++ apply a.1 b.1 ∷ [], length b.0)

abbrev pub lay_all : Equations → Graph → Graph × Pairs
lay_all [] g = (g, [])
lay_all (e ∷ es) g =
    let a = lay e.0 g in
    let b = lay e.1 a.0 in
    let rest = lay_all es b.0 in
    (rest.0, (a.1, b.1) ∷ rest.1)

abbrev pub renamed_entries : (ℕ → Term) → List (Name × Term) → List (Name × Term)
renamed_entries ρ [] = []
renamed_entries ρ (e ∷ es) = (e.0, fill ρ e.1) ∷ renamed_entries ρ es

abbrev pub filled : (ℕ → Term) → Form → Form
filled ρ F = record { entries = renamed_entries ρ F.entries; result = fill ρ F.result }

abbrev pub member : ℕ → List ℕ → Bool
member k [] = false
member k (x ∷ xs) = k == x || member k xs

-- the distinct variables, by first appearance
abbrev pub distinct : List ℕ → List ℕ → List ℕ
distinct seen [] = seen
distinct seen (k ∷ ks) = distinct (cond (member k seen) seen (seen ++ k ∷ [])) ks

abbrev pub position : ℕ → List ℕ → ℕ
position k [] = 0
position k (x ∷ xs) = cond (k == x) 0 (suc (position k xs))

-- the form with its variables numbered from 0 by first appearance
abbrev pub canonical : Form → Form
canonical F =
    let seen = distinct [] (form_variables F) in
    filled (λ k. var (position k seen)) F

abbrev pub finished : Form → Option Graph → Option Form
finished F None = None
finished F (Some g) = cond (acyclic g) (Some (canonical (filled (term_of g) F))) None

-- the form of all solutions, or nothing if there is no solution
abbrev pub solve : Problem → Option Form
solve P =
    let laid = lay_all P.equations (replicate P.unknowns free) in
    finished P.form (unify laid.0 laid.1)
