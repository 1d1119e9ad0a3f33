use Rattle.std.proofs.Common.{arith}
use Rattle.inference.specs.Tables.{graph_of}
use Rattle.inference.proofs.Building.{build_longer, no_room, part_no_room}
use Rattle.inference.proofs.table.Table.build.Goals as goal

pub returns-in_err-cell : goal.returns-in_err-cell
returns-in_err-cell c =
    no_room _ _ _ c.from_residual.ensures.0 (omega (arith, build_longer c.args.head c.args.parts.now (graph_of c.args.self.now), c.in_err-cell.ensures))

pub returns-in_err-cell-2 : goal.returns-in_err-cell-2
returns-in_err-cell-2 c =
    no_room _ _ _ c.from_residual-in_err-cell-2.ensures.0 (part_no_room _ _ _ _ _ _ _ c.loop-part.part-index (omega arith) c.in_ok-cell.ensures.1 c.loop-part.invariant c.in_err-cell-2.ensures)
