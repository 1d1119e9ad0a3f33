use Rattle.std.proofs.Common.{arith}
use Rattle.std.proofs.lemmas.Result.{MatchResult-from_err}
use Rattle.inference.proofs.Walking.{all_walked, come_back, sofar_none}
use Rattle.inference.proofs.graph.Graph.check_acyclic.Goals as goal

pub loop-i-init : goal.loop-i-init
loop-i-init c = sofar_none _ _ c.unmarked-marks.ensures

pub returns-in_err-descend : goal.returns-in_err-descend
returns-in_err-descend c =
    MatchResult-from_err _ _ _ c.from_residual.ensures.0 (λ e. come_back _ _ _ _ c.args.self.now.tidy c.loop-i.invariant.closed c.in_err-descend.ensures)

pub returns : goal.returns
returns c = all_walked _ _ _ c.args.self.now.tidy c.loop-i.invariant.ranked (λ i less. c.loop-i.invariant.done i (omega arith))
