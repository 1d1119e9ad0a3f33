use Rattle.std.proofs.Common.{◌≡◌, ◌+◌, ◌-◌, Ok, arith}
use Rattle.inference.specs.Layouts.{Answer}
use Rattle.inference.specs.Tables.{graph_of}
use Rattle.inference.proofs.LayingOut.{takes_fault, takes_more, no_token, no_term, lays_variable, lays_head, head_full, head_lays, lays_none, no_part, part_full, lays_more}
use Rattle.inference.proofs.lay.+lays_term.Goals as goal

pub lay_term-returns-in_err-token : goal.lay_term-returns-in_err-token
lay_term-returns-in_err-token t c =
    record { takes = takes_fault _ _ _ c.from_residual.ensures.0; lays = no_term _ _ _ _ _ (no_token _ _ _ c.in_err-token.ensures.value.1) }

pub lay_term-returns-in-Variable : goal.lay_term-returns-in-Variable
lay_term-returns-in-Variable t c =
    record { takes = omega (arith, c.in_ok-token.ensures.read.1); lays = lays_variable _ _ _ _ _ c.in_ok-token.rest c.in_ok-token.ensures.value c.in-Variable.ensures }

pub lay_term-returns-in-Head : goal.lay_term-returns-in-Head
lay_term-returns-in-Head t c =
    record { takes = takes_more 1 0 _ _ _ c.lay_head.ensures.takes (omega (arith, c.in_ok-token.ensures.read.1)); lays = lays_head _ _ _ _ _ c.in_ok-token.rest _ _ c.in_ok-token.ensures.value c.in-Head.ensures c.lay_head.ensures.lays }

pub lay_head-returns-in_err-cell-clause-lays : goal.lay_head-returns-in_err-cell-clause-lays
lay_head-returns-in_err-cell-clause-lays t c = head_full _ _ _ _ _ _ c.in_err-cell.ensures

pub lay_head-returns-in_err-part-clause-lays : goal.lay_head-returns-in_err-part-clause-lays
lay_head-returns-in_err-part-clause-lays t c =
    let pushed = c.in_ok-cell.ensures in
    let some : c.part_count-part-end.result - c.loop-part._part ≡ 0 → ⊥ = λ e. omega (arith, e, c.loop-part-test.true) in
    head_lays _ _ _ _ _ _ _ _ _ c.part_count-part-end.ensures pushed.0 pushed.1 (c.loop-part.invariant.0 _ _ (no_part _ _ _ _ _ _ _ some c.in_err-part.ensures.lays))

pub lay_head-returns-in_err-cell-2-clause-lays : goal.lay_head-returns-in_err-cell-2-clause-lays
lay_head-returns-in_err-cell-2-clause-lays t c =
    let pushed = c.in_ok-cell.ensures in
    let some : c.part_count-part-end.result - c.loop-part._part ≡ 0 → ⊥ = λ e. omega (arith, e, c.loop-part-test.true) in
    head_lays _ _ _ _ _ _ _ _ _ c.part_count-part-end.ensures pushed.0 pushed.1 (c.loop-part.invariant.0 _ _ (part_full _ _ _ _ c.in_ok-part.behind _ _ _ _ _ some c.in_ok-part.ensures.lays c.in_err-cell-2.ensures))

pub lay_head-loop-part-preserved : goal.lay_head-loop-part-preserved
lay_head-loop-part-preserved t c =
    let pushed = c.in_ok-cell-2.ensures in
    let one_more : c.part_count-part-end.result - c.loop-part._part ≡ c.part_count-part-end.result - (c.loop-part._part + 1) + 1 = omega (arith, c.loop-part-test.true) in
    (λ g' r parts. c.loop-part.invariant.0 g' r (lays_more _ _ _ _ _ _ c.in_ok-part.behind _ _ _ _ _ _ one_more c.in_ok-part.ensures.lays pushed.0 pushed.1 parts), omega (arith, c.loop-part.invariant.1, c.in_ok-part.ensures.takes))

pub lay_head-returns-clause-lays : goal.lay_head-returns-clause-lays
lay_head-returns-clause-lays t c =
    let pushed = c.in_ok-cell.ensures in
    let none : c.part_count-part-end.result - c.loop-part._part ≡ 0 = omega (arith, c.loop-part-test.false) in
    let g = graph_of c.loop-part.table in
    let laid : Answer = Ok (c.loop-part.cell, c.loop-part.rest) in
    head_lays _ _ _ _ _ g _ _ laid c.part_count-part-end.ensures pushed.0 pushed.1 (c.loop-part.invariant.0 g laid (lays_none _ _ c.loop-part.rest _ _ none))
