-- Which arguments fit which kinds. Assumes nothing.
use Rattle.std.specs.Prelude.{Bool, true, false, nat_le}
use Rattle.syntax.specs.Kinds.{sort_of}
use Rattle.syntax.specs.Names.{is_name}
use Rattle.syntax.specs.declared.argument.Argument.{Argument}
use Rattle.syntax.specs.declared.argument.Argument.TheVariants as argument
use Rattle.syntax.specs.declared.argument.Symbol.{Symbol}
use Rattle.syntax.specs.declared.kind.Sort.{Sort}
use Rattle.syntax.specs.declared.kind.Sort.TheVariants as sort

-- an argument of a sort, well formed and in its range
abbrev pub of_sort : Sort → Argument → Bool
of_sort sort.Nothing argument.Nothing = true
of_sort sort.Nothing (argument.Number n) = false
of_sort sort.Nothing (argument.Name n) = false
of_sort sort.Nothing (argument.Label l) = false
of_sort sort.Number argument.Nothing = false
of_sort sort.Number (argument.Number n) = nat_le n 999999
of_sort sort.Number (argument.Name n) = false
of_sort sort.Number (argument.Label l) = false
of_sort sort.Name argument.Nothing = false
of_sort sort.Name (argument.Number n) = false
of_sort sort.Name (argument.Name n) = is_name n.0
of_sort sort.Name (argument.Label l) = false
of_sort sort.Label argument.Nothing = false
of_sort sort.Label (argument.Number n) = false
of_sort sort.Label (argument.Name n) = false
of_sort sort.Label (argument.Label l) = true

abbrev pub fits : Symbol → Bool
fits s = of_sort (sort_of s.kind) s.argument

-- the sort that an argument is of, if it is well formed
abbrev pub sort_is : Argument → Sort
sort_is argument.Nothing = sort.Nothing
sort_is (argument.Number n) = sort.Number
sort_is (argument.Name n) = sort.Name
sort_is (argument.Label l) = sort.Label

abbrev pub sound : Argument → Bool
sound a = of_sort (sort_is a) a
