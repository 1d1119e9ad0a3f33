use Rattle.std.proofs.lemmas.Result.{err_from_is_err_and}
use Rattle.type_text.proofs.Tokens.{no_term, places_by, types_by}
use Rattle.type_text.proofs.print.Printer.token.Goals as goal

pub returns-in_err-token-clause-token : goal.returns-in_err-token-clause-token
returns-in_err-token-clause-token c =
    let p = err_from_is_err_and c.from_residual.result c.from_residual.ensures.1 in
    rw (p.1) (λ s t rest so is. no_term s _ c.in_err-token.ensures.value.1 t rest so is)

pub returns-clause-token : goal.returns-clause-token
returns-clause-token c =
    let read = c.in_ok-token.ensures in
    let gone = c.go_on.ensures in
    rw gone.rest (types_by _ _ c.in_ok-token.rest.now read.value c.from.result c.from.ensures, places_by _ _ c.in_ok-token.rest.now read.value c.from.result c.from.ensures, gone.others.0, gone.others.1, read.read.1)
