use Rattle.std.proofs.Common.{arith}
use Rattle.std.proofs.lemmas.Result.{err_from_is_err_and}
use Rattle.forms.proofs.FormSteps.{form_no_entries, form_no_type, form_left_over, form_is}
use Rattle.forms.proofs.Tokens.{bytes_each}
use Rattle.forms.proofs.status.read_form.Goals as goal

pub returns-in_err-read_entries : goal.returns-in_err-read_entries
returns-in_err-read_entries c =
    let p = err_from_is_err_and c.from_residual-in_err-read_entries.result c.from_residual-in_err-read_entries.ensures.1 in
    let why = c.in_err-read_entries.ensures.value in
    let took = c.in_ok-open_names.ensures in
    rw (p.1, p.2, why.0) (form_no_entries c.args.end _ c.if-bytes-gt-MAX_FORM.false _ c.new-reader.ensures _ c.number.new.self took.0 took.1 why.1)

pub returns-in_err-read_type : goal.returns-in_err-read_type
returns-in_err-read_type c =
    let p = err_from_is_err_and c.from_residual-in_err-read_type.result c.from_residual-in_err-read_type.ensures.1 in
    let why = c.in_err-read_type.ensures.value in
    let took = c.in_ok-open_names.ensures in
    rw (p.1, p.2, why.0) (form_no_type c.args.end _ c.if-bytes-gt-MAX_FORM.false _ c.new-reader.ensures _ c.number.new.self took.0 took.1 c.read_entries.new.self c.in_ok-read_entries.ensures.value why.1)

pub returns-then-left-gt0 : goal.returns-then-left-gt0
returns-then-left-gt0 c =
    let took = c.in_ok-open_names.ensures in
    form_left_over c.args.end _ c.if-bytes-gt-MAX_FORM.false _ c.new-reader.ensures _ c.number.new.self took.0 took.1 c.read_entries.new.self c.in_ok-read_entries.ensures.value c.read_type.new.self c.in_ok-read_type.ensures.value (omega (arith, c.if-left-gt0.true, c.left-3.ensures))

pub returns : goal.returns
returns c =
    let took = c.in_ok-open_names.ensures in
    form_is c.args.end _ c.if-bytes-gt-MAX_FORM.false _ c.new-reader.ensures _ c.number.new.self took.0 took.1 c.read_entries.new.self c.in_ok-read_entries.ensures.value c.read_type.new.self c.in_ok-read_type.ensures.value (bytes_each _ (λ i. (c.type_inv.bytes i).fits)) (omega (arith, c.if-left-gt0.false, c.left-3.ensures)) _ _ _ c.met.ensures c.left.ensures c.left-2.ensures
