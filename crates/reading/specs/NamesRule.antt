-- The rule of the names reading, step by step as it is worked out. Assumes nothing.
use Rattle.std.specs.Prelude.{ℕ, Bool, false, cond, List, [], ◌∷◌, length, drop, Some, None, Option, ◌==◌, nat_le, nat_lt, slice_index}
use Rattle.syntax.specs.declared.argument.Argument.{Argument}
use Rattle.syntax.specs.declared.argument.Argument.TheVariants as argument
use Rattle.syntax.specs.declared.argument.Symbol.{Symbol}
use Rattle.syntax.specs.declared.kind.Kind.{Kind}
use Rattle.syntax.specs.declared.kind.Kind.TheVariants.{Hole, Num, Var, Nil, Lam, Fix, Sel, App, Add, Ext, Ifz}
use Rattle.syntax.specs.declared.name.Name.{Name}
use Rattle.reading.specs.NameStrings.{key, most_names, fours, spelled, allowed}
use Rattle.reading.specs.Readings.{Meaning}

-- A name takes its place among rising ones, and what stands there moves up.
abbrev pub insert : Name → List Name → List Name
insert n [] = n ∷ []
insert n (m ∷ ms) = cond (key n == key m) (m ∷ ms) (cond (nat_lt (key n) (key m)) (n ∷ insert m ms) (m ∷ insert n ms))

-- names, unless they are too many
abbrev pub held : List Name → Option (List Name)
held ns = cond (nat_le (length ns) most_names) (Some ns) None

abbrev pub add : Name → Option (List Name) → Option (List Name)
add n None = None
add n (Some ns) = held (insert n ns)

-- the name in an argument
abbrev pub name_in : Argument → Option Name
name_in argument.Nothing = None
name_in (argument.Number n) = None
name_in (argument.Name n) = Some n
name_in (argument.Label l) = None

-- the name that a node binds in its children
abbrev pub binds : Kind → Argument → Option Name
binds Hole a = None
binds Num a = None
binds Var a = None
binds Nil a = None
binds Lam a = name_in a
binds Fix a = None
binds Sel a = None
binds App a = None
binds Add a = None
binds Ext a = None
binds Ifz a = None

-- the name that a node itself is
abbrev pub shows : Kind → Argument → Option Name
shows Hole a = None
shows Num a = None
shows Var a = name_in a
shows Nil a = None
shows Lam a = None
shows Fix a = None
shows Sel a = None
shows App a = None
shows Add a = None
shows Ext a = None
shows Ifz a = None

abbrev pub is_bound : Option Name → Name → Bool
is_bound None n = false
is_bound (Some m) n = key m == key n

-- names join those that are there, all but the one that is bound
abbrev pub join : Option Name → List Name → Option (List Name) → Option (List Name)
join bound [] set = set
join bound (n ∷ ns) set = join bound ns (cond (is_bound bound n) set (add n set))

-- the names of a child's string join
abbrev pub merge : Option Name → List ℕ → Option (List Name) → Option (List Name)
merge bound text set = cond (slice_index text 0 == 4) None (join bound (fours (drop 2 text)) set)

abbrev pub merge_all : Option Name → List (List ℕ) → Option (List Name) → Option (List Name)
merge_all bound [] set = set
merge_all bound (text ∷ texts) set = merge_all bound texts (merge bound text set)

-- a node's own name joins
abbrev pub add_own : Option Name → Option (List Name) → Option (List Name)
add_own None set = set
add_own (Some n) set = add n set

abbrev pub collected : Symbol → List (List ℕ) → Option (List Name)
collected s parts = add_own (shows s.kind s.argument) (merge_all (binds s.kind s.argument) parts (Some []))

-- the names reading
abbrev pub named : Meaning
named = record { bound = 254; allows = allowed; rule = λ s parts. spelled (collected s parts) }
