use Rattle.std.proofs.Common.{◌≡◌, ◌+◌, ◌*◌, [], ◌∷◌, ◌++◌, take, sym, ap, ◌∙◌, ap₂, arith}
use Rattle.std.proofs.lemmas.List.{take_more_set, take_all, length-set}
use Rattle.question.specs.Digits.{unhex}
use Rattle.question.proofs.HexTexts.{pair_at}
use Rattle.question.proofs.digits.unhex_block.Goals as goal

pub worth-requires : goal.worth-requires
worth-requires c = (pair_at c.args.digits.now c.loop-i.i c.requires (omega arith)).high

pub worth-requires-in-loop-i : goal.worth-requires-in-loop-i
worth-requires-in-loop-i c = (pair_at c.args.digits.now c.loop-i.i c.requires (omega arith)).low

pub loop-i-preserved : goal.loop-i-preserved
loop-i-preserved c =
    let digits = c.args.digits.now in
    let bytes = c.loop-i.bytes in
    let i = c.loop-i.i in
    let v = 16 * c.worth.result + c.worth-in-loop-i.result in
    let value = ap₂ (λ h l. 16 * h + l) c.worth.ensures.value c.worth-in-loop-i.ensures.value in
    let on : 2 * i + 2 ≡ 2 * (i + 1) = omega arith in (
      take_more_set bytes i v (omega arith)
          ∙ ap₂ (λ z w. z ++ w ∷ []) c.loop-i.invariant.0 value
          ∙ sym (pair_at digits i c.requires (omega arith)).more
          ∙ ap (λ k. unhex (take k digits)) on,
      length-set bytes i v ∙ c.loop-i.invariant.1,
    )

pub returns : goal.returns
returns c =
    sym (take_all c.loop-i.i c.loop-i.bytes (omega arith)) ∙ c.loop-i.invariant.0 ∙ ap unhex (take_all (2 * c.loop-i.i) c.args.digits.now (omega arith))
