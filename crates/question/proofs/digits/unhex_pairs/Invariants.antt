use Rattle.std.proofs.Common.{◌≡◌, ◌+◌, ◌*◌, true, ◌||◌, ltb, ◌++◌, length}
use Rattle.question.specs.Digits.{is_hex, unhex}
use Rattle.question.proofs.digits.unhex_pairs.Given as goal

abbrev pub invariant-loop-pair : goal.invariant-loop-pair
invariant-loop-pair l =
    (l.bytes.items ++ unhex l.rest ≡ l.initial.bytes.items ++ unhex l.initial.rest)
    × (2 * length l.bytes.items + length l.rest ≡ 2 * length l.initial.bytes.items + length l.initial.rest)
    × ((ltb (length l.rest) 2 || is_hex l.rest) ≡ true)

abbrev pub decreases-loop-pair : goal.decreases-loop-pair
decreases-loop-pair l = length l.rest
