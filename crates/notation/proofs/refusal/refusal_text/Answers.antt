use Rattle.std.proofs.Common.{arith}
use Rattle.notation.proofs.Decimals.{short}
use Rattle.notation.proofs.refusal.refusal_text.Goals as goal

pub push_decimal-requires : goal.push_decimal-requires
push_decimal-requires c = omega (arith, short c.from-2.result (omega arith))

pub returns-clause-len : goal.returns-clause-len
returns-clause-len c = omega (arith, short c.from-2.result (omega arith))
