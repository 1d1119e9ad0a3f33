use Rattle.std.proofs.Common.{◌-◌}
use Rattle.std.proofs.lemmas.Result.{MatchResult-from_err}
use Rattle.typing.specs.Cells.{readback}
use Rattle.typing.specs.Terms.{◌·◌}
use Rattle.inference.proofs.Writing.{at_root, writes_as, writes_apply, full_apply}
use Rattle.inference.proofs.script.Script.+write_cell.Goals as goal

pub returns-in_err-write_cell-in-Apply : goal.returns-in_err-write_cell-in-Apply
returns-in_err-write_cell-in-Apply t c =
    let g = c.args.graph.now.cells.now in
    let part = readback (c.args.depth - 1) g in
    let is = at_root g c.args.depth c.args.cell _ c.if-depth-eq0.false c.root-top.ensures.value _ c.in-Apply.is in
    MatchResult-from_err _ _ _ c.from_residual.ensures.0 (λ e. full_apply (readback c.args.depth g c.args.cell) (part c.in-Apply.function) (part c.in-Apply.argument) _ c.args.self.now.seen.items is c.in_err-write_cell-in-Apply.ensures)

pub returns-in_ok-write_cell-in-Apply : goal.returns-in_ok-write_cell-in-Apply
returns-in_ok-write_cell-in-Apply t c =
    let g = c.args.graph.now.cells.now in
    let part = readback (c.args.depth - 1) g in
    let f = part c.in-Apply.function in
    let x = part c.in-Apply.argument in
    let is = at_root g c.args.depth c.args.cell _ c.if-depth-eq0.false c.root-top.ensures.value _ c.in-Apply.is in
    writes_as (readback c.args.depth g c.args.cell) (f · x) c.args.self.now c.write_cell-in-Apply.new.self c.write_cell-in-Apply.result is (writes_apply f x c.args.self.now c.write_cell.new.self c.write_cell-in-Apply.new.self c.write_cell-in-Apply.result c.in_ok-write_cell-in-Apply.ensures c.write_cell-in-Apply.ensures)
