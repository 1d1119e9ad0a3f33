use Rattle.std.proofs.Common.{◌+◌, [], drop, Some, sym, ap, ◌∙◌}
use Rattle.std.proofs.lemmas.Result.{err_from_is_err_and}
use Rattle.reading.specs.NameSets.{names_of}
use Rattle.reading.specs.NamesRule.{add_own, merge_all, shows}
use Rattle.reading.specs.Readings.{texts}
use Rattle.reading.specs.NamesLaws.{merge_more}
use Rattle.reading.proofs.TooMany.{add_own_none, merge_all_none}
use Rattle.reading.proofs.names.collect.Goals as goal

pub returns-in_err-merge : goal.returns-in_err-merge
returns-in_err-merge c =
    let bound = c.bound_name-bound.result in
    let slices = c.args.parts.now in
    let own = shows c.args.symbol.kind c.args.symbol.argument in
    let rest = texts (drop (c.loop-part.part-index + 1) slices) in
    rw (err_from_is_err_and c.from_residual.result c.from_residual.ensures.1).1
    (sym (ap (λ b. add_own own (merge_all b (texts slices) (Some []))) (sym c.bound_name-bound.ensures)
    ∙ ap (add_own own) (sym c.loop-part.invariant
    ∙ merge_more bound (Some (names_of c.loop-part.set)) slices c.loop-part.part-index _ c.loop-part-test.true
    ∙ ap (merge_all bound rest) (sym c.in_err-merge.ensures)
    ∙ merge_all_none bound rest)
    ∙ add_own_none own))
