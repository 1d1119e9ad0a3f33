use Rattle.std.proofs.Common.{◌+◌, ◌*◌, ◌∷◌, ◌++◌, sym, ap, ◌∙◌, ap₂, arith}
use Rattle.question.specs.Digits.{unhex}
use Rattle.question.proofs.HexTexts.{pair_from, front_more}
use Rattle.question.proofs.digits.unhex_pairs.Goals as goal

pub loop-pair-preserved : goal.loop-pair-preserved
loop-pair-preserved c =
    let cut = c.in-Some.ensures.cases in
    let rest = c.loop-pair.rest.now in
    let after = c.in-Some.after.now in
    let pair = pair_from rest c.in-Some.pair.now after cut.0 cut.1 cut.2 c.loop-pair.invariant.2 in
    let value = ap₂ (λ h l. 16 * h + l) c.worth.ensures.value c.worth-in-Some.ensures.value in (
      ap (λ z. z ++ unhex after) c.push.ensures.items ∙ front_more c.loop-pair.bytes.items rest after _ _ (pair.value ∙ sym (ap (λ v. v ∷ unhex after) value)) c.loop-pair.invariant.0,
      omega (arith, cut.2, c.push.ensures.len),
      pair.more,
    )
