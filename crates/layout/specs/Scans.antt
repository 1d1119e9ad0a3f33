-- What a scan answers of a sheet file. Assumes nothing.
use Rattle.std.specs.Prelude.{◌≡◌, ℕ, ◌+◌, ◌<◌, ◌≤◌, min, ◌⊎◌, List, ◌++◌, length, Some, Result}
use Rattle.std.specs.Result as results
use Rattle.layout.specs.Files.{file_bytes, forest_bytes}
use Rattle.syntax.specs.Rules.{Rule, WellFormed}
use Rattle.syntax.specs.Trees.{Forest, Tree, count, height, levels, nodes, size, subtree}
use Rattle.syntax.specs.declared.argument.Symbol.{Symbol}
use Rattle.syntax.specs.declared.fault.Fault.{Fault}
use Rattle.syntax.specs.declared.fault.Fault.TheVariants.{BadLayout, TooDeep, TooMany}
use Rattle.layout.specs.declared.scan.Figures.{Figures}
use Rattle.layout.specs.declared.scan.Measured.{Measured}

-- the bytes are the sheet file of a rule
pub record FileOf (bytes : List ℕ) (t : Tree Symbol) : Type 0 where
  pub rule : Rule t
  pub spelled : bytes ≡ file_bytes t

-- the file of a rule within the limits, and its figures
pub record Granted (bytes : List ℕ) (capacity : ℕ) (f : Figures) : Type 0 where
  pub tree : Tree Symbol
  pub file : FileOf bytes tree
  pub shallow : height tree ≤ 40
  pub small : size tree ≤ capacity
  pub nodes_are : f.nodes ≡ size tree
  pub height_is : f.height ≡ height tree

-- no file of a rule; else one with a node deeper than 40; else one with too many nodes
abbrev pub Refused : List ℕ → ℕ → Fault → Type 0
Refused bytes capacity fault =
    ((fault ≡ BadLayout) × ((t : Tree Symbol) → FileOf bytes t → ⊥))
    ⊎ (((fault ≡ TooDeep) × ((t : Tree Symbol) × FileOf bytes t × (40 < height t)))
    ⊎ ((fault ≡ TooMany) × ((t : Tree Symbol) × FileOf bytes t × (height t ≤ 40) × (capacity < size t))))

abbrev pub Scanned : List ℕ → ℕ → Result Figures Fault → Type 0
Scanned bytes capacity r = results.MatchResult r (Granted bytes capacity) (Refused bytes capacity)

-- a file is the file of one rule only
abbrev pub OneRule : Type 0
OneRule = (t u : Tree Symbol) → Rule t → Rule u → file_bytes t ≡ file_bytes u → t ≡ u

-- a rule's height is the length of its longest path
abbrev pub HeightIsDepth : Type 0
HeightIsDepth =
    (t : Tree Symbol)
    → ((path : List ℕ) (u : Tree Symbol) → subtree path t ≡ Some u → length path ≤ height t)
    × ((path : List ℕ) × (u : Tree Symbol) × (subtree path t ≡ Some u) × (length path ≡ height t))

-- The bytes begin with k trees, before a rest.
pub record Begins (bytes : List ℕ) (k : ℕ) (f : Forest Symbol) (rest : List ℕ) : Type 0 where
  pub well : WellFormed f
  pub many : count f ≡ k
  pub spelled : bytes ≡ forest_bytes f ++ rest

abbrev pub NoTrees : List ℕ → ℕ → Type 0
NoTrees bytes k = (f : Forest Symbol) (rest : List ℕ) → Begins bytes k f rest → ⊥

-- k trees at the front of the bytes: the rest, their nodes, and their levels counted up to one past a limit
pub record Measures (bytes : List ℕ) (k limit : ℕ) (m : Measured) : Type 0 where
  pub forest : Forest Symbol
  pub begins : Begins bytes k forest m.rest.now
  pub nodes_are : m.nodes ≡ nodes forest
  pub levels_are : m.levels ≡ min (levels forest) (limit + 1)
