use Rattle.std.proofs.Common.{◌≡◌, ◌≤◌, true, sym, ◌∙◌, arith, rules, tests}
use Rattle.std.proofs.lemmas.Iterator.{YieldsList-from_slice}
use Rattle.std.proofs.lemmas.Iterator.Search.{all_from_yields_List}
use Rattle.syntax.specs.Arguments.{fits}
use Rattle.reading.proofs.Refusals.{all_allowed, by_string, by_none}
use Rattle.inference.specs.Nodes.{allowed, typed}
use Rattle.inference.proofs.node.admit.Goals as goal

pub returns-then-not-all : goal.returns-then-not-all
returns-then-not-all c =
    let fit : fits c.args.symbol ≡ true = search rules in
    let long : 247 ≤ c.args.room = omega arith in
    let all = all_from_yields_List (λ s. allowed s.now) _ _ c.all.result c.all.ensures.ran (YieldsList-from_slice c.args.parts.now cc) (λ x b q k. search (rules, tests)) in
    by_string typed 0 c.args.symbol _ _ fit (omega arith) long (sym (all_allowed typed c.args.parts.now) ∙ sym all ∙ c.if-not-all.true)

pub returns : goal.returns
returns c =
    let fit : fits c.args.symbol ≡ true = search rules in
    let long : 247 ≤ c.args.room = omega arith in
    let all = all_from_yields_List (λ s. allowed s.now) _ _ c.all.result c.all.ensures.ran (YieldsList-from_slice c.args.parts.now cc) (λ x b q k. search (rules, tests)) in
    by_none typed 0 c.args.symbol _ _ fit (omega arith) long (c.if-parts-arity.false ∙ c.arity.ensures) (sym (all_allowed typed c.args.parts.now) ∙ sym all ∙ c.if-not-all.false)
