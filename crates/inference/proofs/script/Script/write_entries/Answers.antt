use Rattle.std.proofs.lemmas.Result.{MatchResult-from_err}
use Rattle.inference.specs.Slots.{blank}
use Rattle.inference.proofs.WritingEntries.{full_name, full_cell, entries_again}
use Rattle.inference.proofs.script.Script.write_entries.Goals as goal

pub returns-in_err-push : goal.returns-in_err-push
returns-in_err-push c =
    MatchResult-from_err _ _ _ c.from_residual.ensures.0 (λ e. full_name _ _ _ blank _ _ c.loop-entry.invariant c.loop-entry-test.true c.in_err-push.ensures)

pub returns-in_err-write_cell : goal.returns-in_err-write_cell
returns-in_err-write_cell c =
    MatchResult-from_err _ _ _ c.from_residual-in_err-write_cell.ensures.0 (λ e. full_cell _ _ _ blank _ _ c.loop-entry.invariant c.loop-entry-test.true c.push.new.self c.in_ok-push.ensures.0 c.in_ok-push.ensures.1 c.in_err-write_cell.ensures)

pub loop-entry-preserved : goal.loop-entry-preserved
loop-entry-preserved c =
    entries_again _ _ _ blank _ _ c.loop-entry.invariant c.loop-entry-test.true c.push.new.self c.in_ok-push.ensures.0 c.in_ok-push.ensures.1 c.write_cell.new.self c.in_ok-write_cell.ensures
