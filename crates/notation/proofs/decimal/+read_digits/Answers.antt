use Rattle.std.proofs.Common.{sym, inl, inr, arith}
use Rattle.std.proofs.lemmas.Bool.{eqb-true, eqb-false}
use Rattle.notation.proofs.Decimals.{none_empty, none_letter, some_digit, none_front, none_bad, some_more}
use Rattle.notation.proofs.decimal.+read_digits.Goals as goal
use Rattle.notation.proofs.decimal.+read_digits.Goals.{then-high-eq0-via-then-high-eq0, then-high-eq0-via-else-high-eq0+then-high}

pub returns-in_err-last : goal.returns-in_err-last
returns-in_err-last t c = rw c.from_residual.ensures (none_empty _ c.in_err-last.ensures.cases)

pub returns-then-not-is_ascii_digit : goal.returns-then-not-is_ascii_digit
returns-then-not-is_ascii_digit t c = none_letter _ _ _ c.in_ok-last.ensures.cases.0 (λ h. omega (arith, c.if-not-is_ascii_digit.ensures.cases))

pub returns-then-is_empty : goal.returns-then-is_empty
returns-then-is_empty t c =
    let digit = c.if-not-is_ascii_digit.ensures.cases in
    some_digit _ _ _ c.in_ok-last.ensures.cases.0 (eqb-true _ _ (sym c.if-is_empty.ensures)) (omega (arith, digit)) (omega (arith, digit))

pub returns-in_err-high : goal.returns-in_err-high
returns-in_err-high t c =
    rw c.from_residual-in_err-high.ensures
    (none_front _ _ _ c.in_ok-last.ensures.cases.0 (eqb-false _ _ (sym c.if-is_empty.ensures)) c.in_err-high.ensures)

pub returns-then-high-eq0 : goal.returns-then-high-eq0
returns-then-high-eq0 t c =
    none_bad _ _ _ c.in_ok-last.ensures.cases.0 (eqb-false _ _ (sym c.if-is_empty.ensures)) _ c.in_ok-high.ensures
    (elim c.then-high-eq0.branch [ then-high-eq0-via-then-high-eq0 w ↦ inl w.if-high-eq0.true | then-high-eq0-via-else-high-eq0+then-high w ↦ inr w.if-high.true ])

pub returns : goal.returns
returns t c =
    let digit = c.if-not-is_ascii_digit.ensures.cases in
    some_more _ _ _ c.in_ok-last.ensures.cases.0 (eqb-false _ _ (sym c.if-is_empty.ensures)) _ c.in_ok-high.ensures c.if-high-eq0.false (omega arith) (omega (arith, digit)) (omega (arith, digit))
