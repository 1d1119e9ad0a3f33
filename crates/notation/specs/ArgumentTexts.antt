-- Arguments as they stand in a line. Assumes nothing.
use Rattle.std.specs.Prelude.{◌≡◌, ℕ, true, List, [], Some, None, Ok, decimal, Option, Result, MatchResult, ◌≢◌}
use Rattle.std.specs.Option.{unwrap_or}
use Rattle.syntax.specs.Arguments.{of_sort}
use Rattle.syntax.specs.Labels.{label_word}
use Rattle.syntax.specs.Names.{letters}
use Rattle.syntax.specs.declared.argument.Argument.{Argument}
use Rattle.syntax.specs.declared.argument.Argument.TheVariants.{Nothing, Number, Name, Label}
use Rattle.syntax.specs.declared.fault.Fault.{Fault}
use Rattle.syntax.specs.declared.fault.Fault.TheVariants.{Misfit}
use Rattle.syntax.specs.declared.kind.Sort.{Sort}

-- the field of a line that an argument stands in, if it takes one
abbrev pub field_of : Argument → Option (List ℕ)
field_of Nothing = None
field_of (Number n) = Some (decimal n)
field_of (Name n) = Some (letters n.0)
field_of (Label l) = Some (label_word l)

-- its text
abbrev pub argument_text : Argument → List ℕ
argument_text a = unwrap_or (field_of a) []

-- what is answered where an argument of a sort is looked for in a field
abbrev pub Parsed : Sort → Option (List ℕ) → Result Argument Fault → Type 0
Parsed sort field r =
    MatchResult r (λ a. (of_sort sort a ≡ true) × (field_of a ≡ field))
    (λ fault. (fault ≡ Misfit) × ((a : Argument) → of_sort sort a ≡ true → field_of a ≢ field))

-- an argument that is printed is parsed back
abbrev pub ParsesBack : Type 0
ParsesBack = (sort : Sort) (a : Argument) (r : Result Argument Fault) → of_sort sort a ≡ true → Parsed sort (field_of a) r → r ≡ Ok a
