use Rattle.std.proofs.Common.{◌∙◌, arith}
use Rattle.std.proofs.lemmas.Result.{err_from_is_err_and}
use Rattle.forms.proofs.EntrySteps.{turn_unnamed, turn_untyped, turn_then, turns_done}
use Rattle.forms.proofs.reader.Reader.read_entries.Goals as goal

pub returns-in_err-read_name-clause-value : goal.returns-in_err-read_name-clause-value
returns-in_err-read_name-clause-value c =
    let p = err_from_is_err_and c.from_residual.result c.from_residual.ensures.1 in
    let why = c.in_err-read_name.ensures in
    rw (p.1, p.2) (why.0, c.loop-entry.invariant.0 ∙ turn_unnamed _ _ c.loop-entry-test.true _ _ _ why.1)

pub returns-in_err-read_type-clause-value : goal.returns-in_err-read_type-clause-value
returns-in_err-read_type-clause-value c =
    let p = err_from_is_err_and c.from_residual-in_err-read_type.result c.from_residual-in_err-read_type.ensures.1 in
    let why = c.in_err-read_type.ensures.value in
    let name = c.in_ok-read_name.ensures in
    rw (p.1, p.2) (why.0, c.loop-entry.invariant.0 ∙ turn_untyped _ _ c.loop-entry-test.true _ _ _ name.0 c.read_name.new.self name.2 name.3 why.1)

pub loop-entry-preserved : goal.loop-entry-preserved
loop-entry-preserved c =
    let name = c.in_ok-read_name.ensures in
    let went = c.in_ok-read_type.ensures in
    let inv = c.loop-entry.invariant in
    (inv.0 ∙ turn_then _ _ c.loop-entry-test.true _ _ _ name.0 c.read_name.new.self name.2 name.3 _ c.read_type.new.self name.1 went.value, omega (arith, inv.1, name.4, went.shorter))

pub returns-clause-value : goal.returns-clause-value
returns-clause-value c = c.loop-entry.invariant.0 ∙ turns_done _ _ _ _ _ c.loop-entry-test.false
