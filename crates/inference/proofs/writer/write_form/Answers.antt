use Rattle.std.proofs.Common.{length, ap, ◌∙◌, arith}
use Rattle.std.proofs.lemmas.Result.{MatchResult-from_err}
use Rattle.inference.proofs.WritingEntries.{full_entries, full_result, form_written}
use Rattle.inference.proofs.writer.write_form.Goals as goal

pub returns-in_err-write_entries : goal.returns-in_err-write_entries
returns-in_err-write_entries c =
    let added = c.in_ok-push_group.ensures in
    MatchResult-from_err _ _ _ c.from_residual-in_err-write_entries.ensures.0 (λ e. full_entries c.args.graph.now.cells.now c.args.entries.now c.args.type_cell _ _ _ c.new-script.ensures.text (added.1 ∙ c.new-script.ensures.seen) added.0 c.in_err-write_entries.ensures)

pub returns-in_err-write_cell : goal.returns-in_err-write_cell
returns-in_err-write_cell c =
    let added = c.in_ok-push_group.ensures in
    MatchResult-from_err _ _ _ c.from_residual-in_err-write_cell.ensures.0 (λ e. full_result c.args.graph.now.cells.now c.args.entries.now c.args.type_cell _ _ _ c.new-script.ensures.text (added.1 ∙ c.new-script.ensures.seen) added.0 _ _ c.in_ok-write_entries.ensures c.in_err-write_cell.ensures)

pub returns : goal.returns
returns c =
    let added = c.in_ok-push_group.ensures in
    let written = form_written c.args.graph.now.cells.now c.args.entries.now c.args.type_cell _ _ _ c.new-script.ensures.text (added.1 ∙ c.new-script.ensures.seen) added.0 _ _ c.in_ok-write_entries.ensures _ _ c.in_ok-write_cell.ensures in
    (written, omega (arith, ap length written, c.write_cell.new.self.short))
