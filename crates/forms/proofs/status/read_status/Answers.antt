use Rattle.std.proofs.lemmas.Result.{err_from_is_err_and}
use Rattle.typing.specs.Parsing.{read_form}
use Rattle.forms.proofs.FormSteps.{status_no_form}
use Rattle.forms.proofs.status.read_status.Goals as goal

pub returns-in_err-read_form-in-0 : goal.returns-in_err-read_form-in-0
returns-in_err-read_form-in-0 c =
    let bs = c.args.bytes.now in
    let p = err_from_is_err_and c.from_residual.result c.from_residual.ensures.1 in
    rw (p.1, p.2, c.in-0.is) (status_no_form c.args.end (read_form 4 bs) _ c.in_err-read_form-in-0.ensures)
