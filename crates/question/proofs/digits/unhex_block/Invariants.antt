use Rattle.std.proofs.Common.{◌≡◌, ◌*◌, length, take}
use Rattle.question.specs.Digits.{unhex}
use Rattle.question.proofs.digits.unhex_block.Given as goal

abbrev pub invariant-loop-i : goal.invariant-loop-i
invariant-loop-i l = (take l.i l.bytes ≡ unhex (take (2 * l.i) l.digits)) × (length l.bytes ≡ 16)
