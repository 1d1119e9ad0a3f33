use Rattle.std.proofs.Common.{◌+◌, ◌++◌, get_or, take, drop, set, Some, sym, ap, ◌∙◌, ap₂, arith}
use Rattle.std.proofs.lemmas.List.{length-set}
use Rattle.std.proofs.lemmas.Result.{err_from_is_err_and}
use Rattle.reading.specs.NameSets.{names_of}
use Rattle.reading.specs.NameStrings.{fours}
use Rattle.reading.specs.NamesRule.{join}
use Rattle.reading.specs.Fours.{wait_goes, wait_ends, wait_none}
use Rattle.reading.proofs.TooMany.{join_none}
use Rattle.reading.proofs.name_set.NameSet.join.Goals as goal
use Rattle.reading.proofs.name_set.NameSet.join.Goals.{then-filled-eq4+in_ok-insert_free, else-filled-eq4}

pub returns-in_err-insert_free : goal.returns-in_err-insert_free
returns-in_err-insert_free c =
    let bytes = c.args.bytes.now in
    let bound = c.args.bound in
    let rest = fours (drop (c.loop-b.b-index + 1) bytes) in
    rw (err_from_is_err_and c.from_residual.result c.from_residual.ensures.1).1
    (sym (sym c.loop-b.invariant.2
    ∙ ap (λ ns. join bound ns (Some (names_of c.loop-b.self))) (wait_ends c.loop-b.held bytes c.loop-b.filled c.loop-b.b-index c.loop-b.invariant.1 c.loop-b.invariant.0 c.loop-b-test.true c.if-filled-eq4.true)
    ∙ ap (join bound rest) (sym c.in_err-insert_free.ensures)
    ∙ join_none bound rest))

pub loop-b-preserved : goal.loop-b-preserved
loop-b-preserved c =
    let held = c.loop-b.held in
    let bytes = c.args.bytes.now in
    let f = c.loop-b.filled in
    let i = c.loop-b.b-index in
    let bound = c.args.bound in
    let rest = drop (i + 1) bytes in
    let four = length-set held f (get_or bytes i 0) ∙ c.loop-b.invariant.1 in
    elim c.if-filled-eq4.branch [
      | then-filled-eq4+in_ok-insert_free w ↦ (
        omega (arith, w.filled-is),
        four,
        ap₂ (λ k s. join bound (fours (take k (set held f (get_or bytes i 0)) ++ rest)) (Some (names_of s))) w.filled-is w.self-is
            ∙ ap (join bound (fours rest)) w.in_ok-insert_free.ensures
            ∙ sym (ap (λ ns. join bound ns (Some (names_of c.loop-b.self))) (wait_ends held bytes f i c.loop-b.invariant.1 c.loop-b.invariant.0 c.loop-b-test.true w.if-filled-eq4.true))
            ∙ c.loop-b.invariant.2,
      )
      | else-filled-eq4 w ↦ (
        omega (arith, w.filled-is, w.if-filled-eq4.false),
        four,
        ap₂ (λ k s. join bound (fours (take k (set held f (get_or bytes i 0)) ++ rest)) (Some (names_of s))) w.filled-is w.self-is
            ∙ ap (λ z. join bound (fours z) (Some (names_of c.loop-b.self))) (wait_goes held bytes f i c.loop-b.invariant.1 c.loop-b.invariant.0 c.loop-b-test.true)
            ∙ c.loop-b.invariant.2,
      )
    ]

pub returns : goal.returns
returns c =
    sym (ap (λ ns. join c.args.bound ns (Some (names_of c.loop-b.self))) (wait_none c.loop-b.held c.args.bytes.now _ _ c.loop-b.invariant.1 c.loop-b.invariant.0 c.loop-b-test.false)) ∙ c.loop-b.invariant.2
