use Rattle.std.proofs.Common.{◌≡◌, true, sym, ◌∙◌, arith, rules, tests}
use Rattle.std.proofs.lemmas.Iterator.{YieldsList-from_slice}
use Rattle.std.proofs.lemmas.Iterator.Search.{all_from_yields_List}
use Rattle.syntax.specs.Arguments.{fits}
use Rattle.reading.proofs.Refusals.{all_allowed, by_none, by_string}
use Rattle.reading.proofs.Reading.admit.Goals as goal

pub returns-then-not-all : goal.returns-then-not-all
returns-then-not-all g c =
    let m = g.Self.Reading.means c.args.self.now in
    let fit : fits c.args.symbol ≡ true = search rules in
    let all = all_from_yields_List (λ s. m.allows s.now) _ _ c.all.result c.all.ensures.ran (YieldsList-from_slice c.args.parts.now cc) (λ x b q k. search (rules, tests)) in
    by_string m _ c.args.symbol _ _ fit (omega arith) (omega arith) (sym (all_allowed m c.args.parts.now) ∙ sym all ∙ c.if-not-all.true)

pub returns : goal.returns
returns g c =
    let m = g.Self.Reading.means c.args.self.now in
    let fit : fits c.args.symbol ≡ true = search rules in
    let all = all_from_yields_List (λ s. m.allows s.now) _ _ c.all.result c.all.ensures.ran (YieldsList-from_slice c.args.parts.now cc) (λ x b q k. search (rules, tests)) in
    by_none m _ c.args.symbol _ _ fit (omega arith) (omega arith) (c.if-parts-arity.false ∙ c.arity.ensures) (sym (all_allowed m c.args.parts.now) ∙ sym all ∙ c.if-not-all.false)
