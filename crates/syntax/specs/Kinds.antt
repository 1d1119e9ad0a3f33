-- The kinds of nodes: code, word, number of children, sort of argument. Assumes nothing.
use Rattle.std.specs.Prelude.{ℕ, ◌/◌, List, codes}
use Rattle.syntax.specs.declared.kind.Kind.{Kind}
use Rattle.syntax.specs.declared.kind.Kind.TheVariants.{Hole, Num, Var, Nil, Lam, Fix, Sel, App, Add, Ext, Ifz}
use Rattle.syntax.specs.declared.kind.Sort.{Sort}
use Rattle.syntax.specs.declared.kind.Sort.TheVariants as sort

abbrev pub code_of : Kind → ℕ
code_of Hole = 0
code_of Num = 1
code_of Var = 2
code_of Nil = 3
code_of Lam = 4
code_of Fix = 5
code_of Sel = 6
code_of App = 8
code_of Add = 9
code_of Ext = 10
code_of Ifz = 12

abbrev pub word_of : Kind → List ℕ
word_of Hole = codes "hole"
word_of Num = codes "num"
word_of Var = codes "var"
word_of Nil = codes "nil"
word_of Lam = codes "lam"
word_of Fix = codes "fix"
word_of Sel = codes "sel"
word_of App = codes "app"
word_of Add = codes "add"
word_of Ext = codes "ext"
word_of Ifz = codes "ifz"

-- a kind's code says how many children its nodes have
abbrev pub arity : Kind → ℕ
arity k = code_of k / 4

abbrev pub sort_of : Kind → Sort
sort_of Hole = sort.Nothing
sort_of Num = sort.Number
sort_of Var = sort.Name
sort_of Nil = sort.Nothing
sort_of Lam = sort.Name
sort_of Fix = sort.Nothing
sort_of Sel = sort.Label
sort_of App = sort.Nothing
sort_of Add = sort.Nothing
sort_of Ext = sort.Label
sort_of Ifz = sort.Nothing
