use Rattle.inference.specs.Meetings.{pairs_in}
use Rattle.inference.proofs.Uniting.{tidy_one, tidy_both}
use Rattle.inference.proofs.graph.Graph.equate.Goals as goal

pub invariant_of-self-clause-tidy : goal.invariant_of-self-clause-tidy
invariant_of-self-clause-tidy c =
    tidy_one c.args.self.now.cells.now c.args.self.now.tidy c.args.a c.args.b _ _ _ _ c.root-x.ensures.value c.root-y.ensures.value c.root-x.ensures.bound c.root-y.ensures.bound c.if-x-y.false c.min-low.ensures c.max-high.ensures c.in_ok-cell.cell (pairs_in c.in_ok-cell.parts) c.in_ok-cell.ensures

pub invariant_of-self-2-clause-tidy : goal.invariant_of-self-2-clause-tidy
invariant_of-self-2-clause-tidy c =
    tidy_both c.args.self.now.cells.now c.args.self.now.tidy c.args.a c.args.b _ _ _ _ c.root-x.ensures.value c.root-y.ensures.value c.root-x.ensures.bound c.root-y.ensures.bound c.if-x-y.false c.min-low.ensures c.max-high.ensures c.in_ok-cell.cell (pairs_in c.in_ok-cell.parts) c.in_ok-cell.ensures
