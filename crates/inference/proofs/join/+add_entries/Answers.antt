use Rattle.inference.proofs.ChildSteps.{no_name, no_type, no_entries, no_put, entries_more}
use Rattle.inference.proofs.join.+add_entries.Goals as goal

pub returns-in_err-name : goal.returns-in_err-name
returns-in_err-name t c = no_name _ _ _ _ c.if-count-eq0.false _ _ c.in_err-name.ensures

pub returns-in_err-cell : goal.returns-in_err-cell
returns-in_err-cell t c = no_type _ _ _ _ c.if-count-eq0.false _ c.in_ok-name.rest c.in_ok-name.ensures _ _ c.in_err-cell.ensures

pub returns-in_err-rest : goal.returns-in_err-rest
returns-in_err-rest t c = no_entries _ _ _ _ c.if-count-eq0.false c.in_ok-name.name c.in_ok-name.rest c.in_ok-name.ensures _ c.in_ok-cell.cell c.in_ok-cell.rest c.in_ok-cell.ensures _ _ c.in_err-rest.ensures

pub returns-in_err-put : goal.returns-in_err-put
returns-in_err-put t c = no_put _ _ _ _ c.if-count-eq0.false c.in_ok-name.name c.in_ok-name.rest c.in_ok-name.ensures _ c.in_ok-cell.cell c.in_ok-cell.rest c.in_ok-cell.ensures _ c.in_ok-rest.rest c.in_ok-rest.ensures _ _ c.in_err-put.ensures

pub returns : goal.returns
returns t c = entries_more _ _ _ _ c.if-count-eq0.false c.in_ok-name.name c.in_ok-name.rest c.in_ok-name.ensures _ c.in_ok-cell.cell c.in_ok-cell.rest c.in_ok-cell.ensures _ c.in_ok-rest.rest c.in_ok-rest.ensures _ c.in_ok-put.ensures.0
