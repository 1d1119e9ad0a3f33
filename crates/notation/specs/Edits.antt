-- Edits that put a node in, the edits that build a tree, and their lines. Assumes nothing.
use Rattle.std.specs.Prelude.{◌≡◌, ℕ, zero, suc, ◌+◌, List, [], ◌∷◌, ◌++◌, map, Some, None, codes, Option}
use Rattle.std.specs.List.{flat_map}
use Rattle.notation.specs.ArgumentTexts.{field_of}
use Rattle.syntax.specs.Faults.{shown}
use Rattle.syntax.specs.Rules.{Rule}
use Rattle.syntax.specs.Kinds.{arity, word_of}
use Rattle.syntax.specs.Trees.{Forest, none, grow, Tree, node}
use Rattle.syntax.specs.declared.argument.Argument.TheVariants.{Nothing}
use Rattle.syntax.specs.declared.argument.Symbol.{Symbol}
use Rattle.syntax.specs.declared.fault.Fault.{Fault}
use Rattle.syntax.specs.declared.kind.Kind.TheVariants.{Hole}

abbrev pub hole : Symbol
hole = record { kind = Hole; argument = Nothing }

abbrev pub holes : ℕ → Forest Symbol
holes zero = none
holes (suc n) = grow hole none (holes n)

-- a change of the tree at a place in a list
abbrev pub alter : ℕ → (Tree Symbol → Tree Symbol) → Forest Symbol → Forest Symbol
alter k change none = none
alter zero change (grow s c f) = elim (change (node s c)) [ node t d ↦ grow t d f ]
alter (suc k) change (grow s c f) = grow s c (alter k change f)

-- A put: the path of the node that it replaces, and what stands there then.
pub record Put : Type 0 where
  pub path : List ℕ
  pub symbol : Symbol

-- the subtree at the path is replaced by a new node, with a hole for each child
abbrev pub put_at : List ℕ → Symbol → Tree Symbol → Tree Symbol
put_at [] s t = node s (holes (arity s.kind))
put_at (k ∷ path) s (node a c) = node a (alter k (put_at path s) c)

-- one put after the other
abbrev pub puts : List Put → Tree Symbol → Tree Symbol
puts [] t = t
puts (e ∷ es) t = puts es (put_at e.path e.symbol t)

abbrev pub beneath : ℕ → Put → Put
beneath k e = record { path = k ∷ e.path; symbol = e.symbol }

-- a put for each node, a parent before its children and those from left to right; the trees of a
-- list are the children k, k + 1 and so on
abbrev pub edits_from : ℕ → Forest Symbol → List Put
edits_from k none = []
edits_from k (grow s c f) = map (beneath k) (record { path = []; symbol = s } ∷ edits_from 0 c) ++ edits_from (suc k) f

abbrev pub edits : Tree Symbol → List Put
edits (node s c) = record { path = []; symbol = s } ∷ edits_from 0 c

-- the edits of a rule build it from a single hole
abbrev pub Rebuilds : Type 0
Rebuilds = (t : Tree Symbol) → Rule t → puts (edits t) (node hole none) ≡ t

-- a dot, and a digit for each child number
abbrev pub path_text : List ℕ → List ℕ
path_text path = codes "." ++ map (λ k. 48 + k) path

abbrev pub spaced : Option (List ℕ) → List ℕ
spaced None = []
spaced (Some field) = codes " " ++ field

-- the line of a put, with its end of line, where the path is given as text
abbrev pub line_at : List ℕ → Symbol → List ℕ
line_at path s = codes "p " ++ path ++ codes " " ++ word_of s.kind ++ spaced (field_of s.argument) ++ codes "\n"

abbrev pub put_line : Put → List ℕ
put_line e = line_at (path_text e.path) e.symbol

abbrev pub edit_lines : Tree Symbol → List ℕ
edit_lines t = flat_map put_line (edits t)

-- the line of a refusal
abbrev pub no_line : Fault → List ℕ
no_line fault = shown fault ++ codes "\n"
