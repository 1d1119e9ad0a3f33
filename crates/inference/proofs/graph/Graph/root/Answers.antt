use Rattle.typing.proofs.Finding.{link_step}
use Rattle.inference.proofs.graph.Graph.root.Goals as goal

pub loop-i-preserved : goal.loop-i-preserved
loop-i-preserved c =
    link_step _ c.args.self.now.cells.now c.args.self.now.tidy c.loop-i.i c.in-Link.j c.args.start c.loop-i.invariant.0 c.in-Link.is c.loop-i.invariant.1
