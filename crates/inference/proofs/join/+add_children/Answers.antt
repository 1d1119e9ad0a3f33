use Rattle.std.proofs.Common.{◌+◌, sym, ap, arith}
use Rattle.reading.specs.Readings.{texts}
use Rattle.inference.proofs.ChildrenSteps.{no_later, no_cell, child_more, first_put}
use Rattle.inference.proofs.join.+add_children.Goals as goal

pub returns-in_err-fresh : goal.returns-in_err-fresh
returns-in_err-fresh t c =
    no_later _ _ _ _ (ap texts c.in-Some.ensures.cases.0) c.in_ok-outline.outline (sym c.in_ok-outline.ensures.value) _ (ap (λ w. c.args.base.cell + w) c.width.ensures) _ _ _ c.in_err-fresh.ensures

pub returns-in_err-types : goal.returns-in_err-types
returns-in_err-types t c =
    no_cell _ _ _ _ (ap texts c.in-Some.ensures.cases.0) c.in_ok-outline.outline (sym c.in_ok-outline.ensures.value) _ (ap (λ w. c.args.base.cell + w) c.width.ensures) c.in_ok-fresh.fresh _ _ c.in_ok-fresh.ensures _ _ _ c.in_err-types.ensures

pub returns : goal.returns
returns t c =
    child_more _ _ _ _ (ap texts c.in-Some.ensures.cases.0) c.in_ok-outline.outline (sym c.in_ok-outline.ensures.value) _ (ap (λ w. c.args.base.cell + w) c.width.ensures) c.in_ok-fresh.fresh _ _ c.in_ok-fresh.ensures _ _ _ (first_put c.args.types.now _ _ (omega (arith, c.requires.types, c.in-Some.ensures.cases.1))) c.in_ok-types.ensures
