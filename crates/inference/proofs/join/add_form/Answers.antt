use Rattle.inference.proofs.ChildSteps.{no_form_entries, no_form_type, form_added}
use Rattle.inference.proofs.join.add_form.Goals as goal

pub returns-in_err-rest : goal.returns-in_err-rest
returns-in_err-rest c = no_form_entries _ _ _ _ _ _ c.in_err-rest.ensures

pub returns-in_err-cell : goal.returns-in_err-cell
returns-in_err-cell c = no_form_type _ _ _ _ _ c.in_ok-rest.rest c.in_ok-rest.ensures _ _ c.in_err-cell.ensures

pub returns : goal.returns
returns c = form_added _ _ _ _ _ c.in_ok-rest.rest c.in_ok-rest.ensures _ _ c.in_ok-cell.field-0-1 c.in_ok-cell.ensures
