-- The bytes of a node in a sheet file: the code of its kind, and its argument. Assumes nothing.
use Rattle.std.specs.Prelude.{ℕ, List, [], ◌++◌, length}
use Rattle.layout.specs.Groups.{group}
use Rattle.syntax.specs.Kinds.{code_of}
use Rattle.syntax.specs.Labels.{label_code}
use Rattle.syntax.specs.Names.{letters}
use Rattle.syntax.specs.declared.argument.Argument.{Argument}
use Rattle.syntax.specs.declared.argument.Argument.TheVariants.{Nothing, Number, Name, Label}
use Rattle.syntax.specs.declared.argument.Symbol.{Symbol}

abbrev pub argument_bytes : Argument → List ℕ
argument_bytes Nothing = []
argument_bytes (Number n) = group n
argument_bytes (Name n) = group (length (letters n.0)) ++ letters n.0
argument_bytes (Label l) = group (label_code l)

abbrev pub symbol_bytes : Symbol → List ℕ
symbol_bytes s = group (code_of s.kind) ++ argument_bytes s.argument
