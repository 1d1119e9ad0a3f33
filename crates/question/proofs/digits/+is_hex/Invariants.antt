use Rattle.std.proofs.Common.{length}
use Rattle.question.proofs.digits.+is_hex.Given as goal

abbrev pub decreases-is_hex : goal.decreases-is_hex
decreases-is_hex l = length l.text.now
