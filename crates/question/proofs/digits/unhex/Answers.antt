use Rattle.std.proofs.Common.{◌≡◌, ◌++◌, sym, ap, ◌∙◌, append_assoc, rules}
use Rattle.question.specs.Digits.{unhex}
use Rattle.question.proofs.HexTexts.{block_from}
use Rattle.question.proofs.digits.unhex.Goals as goal

pub unhex_block-requires : goal.unhex_block-requires
unhex_block-requires c =
    let cut = c.in-Some.ensures.cases in
    (block_from c.loop-digits.rest.now c.in-Some.digits.now c.in-Some.after.now cut.0 cut.1 cut.2 c.loop-digits.invariant.2).0

pub loop-digits-preserved : goal.loop-digits-preserved
loop-digits-preserved c =
    let cut = c.in-Some.ensures.cases in
    let digits = c.in-Some.digits.now in
    let after = c.in-Some.after.now in
    let block = block_from c.loop-digits.rest.now digits after cut.0 cut.1 cut.2 c.loop-digits.invariant.2 in
    let there = c.loop-digits.bytes.items in
    let grown : c.try_extend_from_slice.new.self.items ≡ there ++ c.unhex_block.result = search rules in (
      ap (λ z. z ++ unhex after) (grown ∙ ap (λ z. there ++ z) c.unhex_block.ensures)
          ∙ append_assoc there (unhex digits) (unhex after)
          ∙ ap (λ z. there ++ z) (sym block.2)
          ∙ c.loop-digits.invariant.0,
      search rules,
      block.1,
    )
