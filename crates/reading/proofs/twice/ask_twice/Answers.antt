use Rattle.std.proofs.Common.{take, ap}
use native.Mathlib.Nat.{sub-zero}
use Rattle.reading.proofs.TwoQuestions.{twice}
use Rattle.reading.proofs.twice.ask_twice.Goals as goal

pub returns : goal.returns
returns g c = twice _ _ _ _ _ _ _ _ _ _ _ _ _ c.ask_over.result _ c.in_ok-n.ensures (ap (λ k. take k c.ask.new.out) (sub-zero c.in_ok-n.n)) c.ask_over.ensures
