use Rattle.std.proofs.Common.{refl, subst, arith}
use Rattle.layout.specs.Scans.{NoTrees}
use Rattle.layout.proofs.Scans.{no_first, no_below, no_beside, measures_at, measures_grow, grown_fits}
use Rattle.layout.proofs.scan.+measure.Goals as goal

pub returns-in_err-symbol : goal.returns-in_err-symbol
returns-in_err-symbol t c = rw c.from_residual.ensures (no_first _ _ (omega arith) c.in_err-symbol.ensures)

pub returns-in_err-below : goal.returns-in_err-below
returns-in_err-below t c =
    let (fit, front) = c.in_ok-symbol.ensures in
    let absent = subst (λ n. NoTrees c.in_ok-symbol.rest.now n) c.arity.ensures c.in_err-below.ensures in
    rw c.from_residual-in_err-below.ensures (no_below _ _ _ fit front _ (omega arith) absent)

pub returns-in_err-beside : goal.returns-in_err-beside
returns-in_err-beside t c =
    let (fit, front) = c.in_ok-symbol.ensures in
    let below = measures_at c.arity.ensures c.in_ok-below.ensures in
    rw c.from_residual-in_err-beside.ensures
    (no_beside _ _ _ fit front _ (omega arith) below.forest _ below.begins c.in_err-beside.ensures)

pub overflow_add-result : goal.overflow_add-result
overflow_add-result t c =
    let (fit, front) = c.in_ok-symbol.ensures in
    let within = grown_fits _ _ _ fit front c.args.count c.args.limit (omega arith) (omega arith) _ _ (measures_at c.arity.ensures c.in_ok-below.ensures) c.in_ok-beside.ensures in
    record { fits = omega arith }

pub overflow_add-result-2 : goal.overflow_add-result-2
overflow_add-result-2 t c =
    let (fit, front) = c.in_ok-symbol.ensures in
    let within = grown_fits _ _ _ fit front c.args.count c.args.limit (omega arith) (omega arith) _ _ (measures_at c.arity.ensures c.in_ok-below.ensures) c.in_ok-beside.ensures in
    record { fits = omega arith }

pub returns : goal.returns
returns t c =
    let (fit, front) = c.in_ok-symbol.ensures in
    measures_grow _ _ _ fit front c.args.count c.args.limit (omega arith) (omega arith) _ _ (measures_at c.arity.ensures c.in_ok-below.ensures) c.in_ok-beside.ensures _ refl refl c.max.ensures
