use Rattle.std.proofs.Common.{length}
use Rattle.notation.proofs.decimal.+read_digits.Given as goal

abbrev pub decreases-read_digits : goal.decreases-read_digits
decreases-read_digits l = length l.text.now
