-- The free names of a rule, in the words of the subject, and what the names reading says of them.
-- Assumes nothing.
use Rattle.std.specs.Prelude.{◌≡◌, ℕ, ◌<◌, true, ◌⊎◌, List, [], ◌∷◌, length, Some, ◌≢◌}
use Rattle.syntax.specs.Rules.{Rule}
use Rattle.syntax.specs.Trees.{Forest, none, grow, Tree, node, subtree}
use Rattle.syntax.specs.declared.argument.Argument.TheVariants as argument
use Rattle.syntax.specs.declared.argument.Symbol.{Symbol}
use Rattle.syntax.specs.declared.kind.Kind.{Kind}
use Rattle.syntax.specs.declared.kind.Kind.TheVariants.{Hole, Num, Var, Nil, Lam, Fix, Sel, App, Add, Ext, Ifz}
use Rattle.syntax.specs.declared.name.Name.{Name}
use Rattle.reading.specs.NameStrings.{rising, listing, many, most_names}
use Rattle.reading.specs.NamesRule.{named}
use Rattle.reading.specs.Readings.{gives}

-- A name is free at a node, given what it is to be free in one of its children: a variable has its
-- own name free, a function has its body's free names but for its own, and any other node has its
-- children's.
abbrev pub FreeAt : Name → Kind → Symbol → Type 0 → Type 0
FreeAt n Var s below = s.argument ≡ argument.Name n
FreeAt n Lam s below = (s.argument ≢ argument.Name n) × below
FreeAt n Hole s below = below
FreeAt n Num s below = below
FreeAt n Nil s below = below
FreeAt n Fix s below = below
FreeAt n Sel s below = below
FreeAt n App s below = below
FreeAt n Add s below = below
FreeAt n Ext s below = below
FreeAt n Ifz s below = below

-- a name is free in one of some trees
abbrev pub FreeAmong : Name → Forest Symbol → Type 0
FreeAmong n none = ⊥
FreeAmong n (grow s c f) = FreeAt n s.kind s (FreeAmong n c) ⊎ FreeAmong n f

-- a name is free in a tree
abbrev pub Free : Name → Tree Symbol → Type 0
Free n (node s c) = FreeAt n s.kind s (FreeAmong n c)

-- a name is one of a list
abbrev pub Among : Name → List Name → Type 0
Among n [] = ⊥
Among n (m ∷ ms) = (n ≡ m) ⊎ Among n ms

-- more names are free in a tree than are ever listed
pub record Crowded (t : Tree Symbol) : Type 0 where
  pub names : List Name
  pub apart : rising 0 names ≡ true
  pub free : (n : Name) → Among n names → Free n t
  pub more : most_names < length names

-- some subtree of a tree, it may be the tree itself, is crowded
pub record Overfull (t : Tree Symbol) : Type 0 where
  pub path : List ℕ
  pub part : Tree Symbol
  pub there : subtree path t ≡ Some part
  pub crowded : Crowded part

-- a string lists exactly the free names of a tree, each once and in rising order
pub record Lists (t : Tree Symbol) (text : List ℕ) : Type 0 where
  pub names : List Name
  pub apart : rising 0 names ≡ true
  pub sound : (n : Name) → Among n names → Free n t
  pub complete : (n : Name) → Free n t → Among n names
  pub is : text ≡ listing names

-- What a rule alone gives under the names reading lists exactly its free names; or it is the string
-- for too many, exactly if some subtree has more than 63.
abbrev pub GivesFreeNames : Type 0
GivesFreeNames =
    (t : Tree Symbol) → Rule t → (Overfull t × (gives named t ≡ many)) ⊎ ((Overfull t → ⊥) × Lists t (gives named t))
