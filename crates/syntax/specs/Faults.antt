-- The number of each refusal, and the text that shows it. Assumes nothing.
use Rattle.std.specs.Prelude.{ℕ, List, ◌++◌, codes, decimal}
use Rattle.syntax.specs.declared.fault.Fault.{Fault}
use Rattle.syntax.specs.declared.fault.Fault.TheVariants.{BadLine, Misfit, NoNode, NoChild, Overlap, TooDeep, TooMany, Marked, MeterFull, ShortBuffer, BadLayout, Unlawful}

abbrev pub number_of : Fault → ℕ
number_of BadLine = 1
number_of Misfit = 2
number_of NoNode = 3
number_of NoChild = 4
number_of Overlap = 5
number_of TooDeep = 6
number_of TooMany = 7
number_of Marked = 8
number_of MeterFull = 9
number_of ShortBuffer = 10
number_of BadLayout = 11
number_of Unlawful = 12

-- as in an answer to a line
abbrev pub shown : Fault → List ℕ
shown fault = codes "no " ++ decimal (number_of fault)
