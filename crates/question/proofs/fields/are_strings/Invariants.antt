use Rattle.std.proofs.Common.{◌≡◌, length}
use Rattle.question.specs.Fields.{are_strings, fields_in}
use Rattle.question.proofs.fields.are_strings.Given as goal

abbrev pub invariant-loop-left : goal.invariant-loop-left
invariant-loop-left l = are_strings (fields_in l.left) ≡ are_strings (fields_in l.initial.left)

abbrev pub decreases-loop-left : goal.decreases-loop-left
decreases-loop-left l = length (fields_in l.left)
