use Rattle.notation.proofs.Decimals.{none_long}
use Rattle.notation.proofs.decimal.read_decimal.Goals as goal

pub returns-then-text-gt-MAX_DIGITS : goal.returns-then-text-gt-MAX_DIGITS
returns-then-text-gt-MAX_DIGITS c = none_long _ c.if-text-gt-MAX_DIGITS.true
