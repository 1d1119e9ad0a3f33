use Rattle.std.proofs.Common.{◌≡◌, ◌+◌, ◌*◌, true, ◌||◌, ltb, ◌++◌, length}
use Rattle.question.specs.Digits.{is_hex, unhex}
use Rattle.question.proofs.digits.unhex.Given as goal

abbrev pub invariant-loop-digits : goal.invariant-loop-digits
invariant-loop-digits l =
    (l.bytes.items ++ unhex l.rest ≡ l.initial.bytes.items ++ unhex l.initial.rest)
    × (2 * length l.bytes.items + length l.rest ≡ 2 * length l.initial.bytes.items + length l.initial.rest)
    × ((ltb (length l.rest) 2 || is_hex l.rest) ≡ true)

abbrev pub decreases-loop-digits : goal.decreases-loop-digits
decreases-loop-digits l = length l.rest
