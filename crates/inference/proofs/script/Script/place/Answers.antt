use Rattle.std.proofs.Common.{◌≤◌, length, eqb, sym, ap, ◌∙◌, subst, arith, rules, tests}
use Rattle.std.specs.List.{position_or_len}
use Rattle.std.specs.Option.{unwrap_or}
use Rattle.std.proofs.lemmas.Iterator.{YieldsList-from_slice}
use Rattle.std.proofs.lemmas.Iterator.Search.{position_from_yields_List}
use Rattle.inference.proofs.Adding.{position_is, position_within, place_is}
use Rattle.inference.proofs.script.Script.place.Goals as goal

pub returns : goal.returns
returns c =
    let k = c.args.cell in
    let seen = c.args.self.now.seen.items in
    let listed = position_from_yields_List (eqb k) _ _ c.position-listed.result c.position-listed.ensures.ran (YieldsList-from_slice seen cc) (λ x b q h. search (rules, tests)) in
    let within = subst (λ n. n ≤ length seen) (position_is k seen) (position_within k seen) in
    let value = c.unwrap_or.ensures ∙ ap (unwrap_or c.position-listed.result) c.len.ensures.value ∙ place_is (position_or_len (eqb k) seen) (length seen) c.position-listed.result listed within ∙ sym (position_is k seen) in
    record { value = value; bound = omega (arith, value, position_within k seen, c.len.ensures.value, c.len.ensures.fits) }
