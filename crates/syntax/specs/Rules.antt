-- Rules as trees. Assumes nothing.
use Rattle.std.specs.Prelude.{◌≡◌, true}
use Rattle.syntax.specs.Arguments.{fits}
use Rattle.syntax.specs.Kinds.{arity}
use Rattle.syntax.specs.Trees.{Forest, none, grow, Tree, alone, count}
use Rattle.syntax.specs.declared.argument.Symbol.{Symbol}

-- each node has an argument that fits its kind, and as many children as its kind has
abbrev pub WellFormed : Forest Symbol → Type 0
WellFormed none = Unit {0}
WellFormed (grow s c f) = (fits s ≡ true) × (count c ≡ arity s.kind) × WellFormed c × WellFormed f

-- a rule is a well-formed tree
abbrev pub Rule : Tree Symbol → Type 0
Rule t = WellFormed (alone t)
