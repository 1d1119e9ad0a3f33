-- The bytes of a sheet file: the tree in prefix order. Assumes nothing.
use Rattle.std.specs.Prelude.{ℕ, List, [], ◌++◌}
use Rattle.layout.specs.SymbolBytes.{symbol_bytes}
use Rattle.syntax.specs.Trees.{Forest, none, grow, Tree, alone}
use Rattle.syntax.specs.declared.argument.Symbol.{Symbol}

-- a node's own bytes, then its children's, then those of the trees beside it
abbrev pub forest_bytes : Forest Symbol → List ℕ
forest_bytes none = []
forest_bytes (grow s c f) = symbol_bytes s ++ (forest_bytes c ++ forest_bytes f)

-- the sheet file of a tree
abbrev pub file_bytes : Tree Symbol → List ℕ
file_bytes t = forest_bytes (alone t)
