use Rattle.std.proofs.lemmas.Result.{err_from_is_err_and}
use Rattle.forms.proofs.Skipping.{skip_no_token, took_token}
use Rattle.forms.proofs.reader.Reader.token.Goals as goal

pub returns-in_err-number : goal.returns-in_err-number
returns-in_err-number c =
    let p = err_from_is_err_and c.from_residual.result c.from_residual.ensures.1 in
    let why = c.in_err-number.ensures in
    rw (p.1, p.2) (why.0, λ s. skip_no_token s _ _ why.1)

pub returns : goal.returns
returns c =
    let took = c.in_ok-number.ensures in
    (took_token c.args.self.now c.number.new.self c.in_ok-number.field-0 c.from.result took.0 took.1 c.from.ensures, took.2, took.3)
