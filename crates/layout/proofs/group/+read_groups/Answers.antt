use Rattle.std.proofs.Common.{◌≡◌, ℕ, suc, ◌+◌, ◌-◌, ◌*◌, ◌<◌, get_or, subst, arith}
use Rattle.layout.proofs.Groups.{None, Some, none_empty, some_small, none_ended, none_above, none_longer, some_above, bound_two}
use Rattle.layout.proofs.group.+read_groups.Goals as goal

one_more : (more : ℕ) → (more ≡ 0 → ⊥) → suc (more - 1) ≡ more
one_more more some = omega arith

pub returns-in_err-first : goal.returns-in_err-first
returns-in_err-first t c = rw c.from_residual.ensures (none_empty c.args.more _ c.in_err-first.ensures.cases)

pub returns-then-low-lt128 : goal.returns-then-low-lt128
returns-then-low-lt128 t c = some_small _ _ _ c.in_ok-first.ensures.cases.0 c.args.more c.if-low-lt128.true

pub returns-then-more-eq0 : goal.returns-then-more-eq0
returns-then-more-eq0 t c = none_ended _ _ _ c.in_ok-first.ensures.cases.0 c.args.more c.if-more-eq0.true c.if-low-lt128.false

pub returns-in_err-high : goal.returns-in_err-high
returns-in_err-high t c =
    rw c.from_residual-in_err-high.ensures
    (subst (λ k. None k c.args.bytes.now) (one_more _ c.if-more-eq0.false)
    (none_above _ _ _ c.in_ok-first.ensures.cases.0 (c.args.more - 1) c.if-low-lt128.false c.in_err-high.ensures))

pub returns-then-high-eq0 : goal.returns-then-high-eq0
returns-then-high-eq0 t c =
    subst (λ k. None k c.args.bytes.now) (one_more _ c.if-more-eq0.false)
    (none_longer _ _ _ c.in_ok-first.ensures.cases.0 (c.args.more - 1) c.if-low-lt128.false c.in_ok-high.rest.now
    (subst (λ n. Some (c.args.more - 1) c.in_ok-first.rest.now n c.in_ok-high.rest.now) c.if-high-eq0.true c.in_ok-high.ensures))

high_fits : (t : ℕ) (c : goal.Else-high-eq0 t) → c.in_ok-high.high < 16384
high_fits t c = omega (arith, bound_two (c.args.more - 1) (omega arith), c.in_ok-high.ensures.0)

pub overflow_mul-result : goal.overflow_mul-result
overflow_mul-result t c = record { fits = omega (arith, high_fits t c) }

pub overflow_add-result : goal.overflow_add-result
overflow_add-result t c = record { fits = omega (arith, high_fits t c) }

pub returns : goal.returns
returns t c =
    let is = c.in_ok-first.ensures.cases.0 in
    let byte = subst (λ l. get_or l 0 0 < 256) is (c.type_inv.bytes 0).fits in
    let high = c.in_ok-high.high in
    let rest = c.in_ok-high.rest.now in
    subst (λ k. Some k c.args.bytes.now (high * 128 + (c.in_ok-first.first.now - 128)) rest) (one_more _ c.if-more-eq0.false)
    (some_above _ _ _ is (c.args.more - 1) c.if-low-lt128.false high rest byte (omega arith) c.in_ok-high.ensures)
