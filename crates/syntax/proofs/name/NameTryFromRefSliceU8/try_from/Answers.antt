use Rattle.std.proofs.Common.{length, sym, refl, ap, ◌∙◌}
use Rattle.std.proofs.lemmas.Bool.{both_ways}
use Rattle.syntax.specs.Names.{is_name, letters}
use Rattle.syntax.proofs.Letters.{padded_copy, padded_name}
use Rattle.syntax.proofs.name.NameTryFromRefSliceU8.try_from.Goals as goal
use Rattle.syntax.proofs.name.NameTryFromRefSliceU8.try_from.Goals.{else-is_valid-via-then-is_valid+else-len-text, else-is_valid-via-else-is_valid}

pub returns-else-is_valid : goal.returns-else-is_valid
returns-else-is_valid c = (
  refl,
  λ n is.
      let same = padded_name _ _ n.0 (padded_copy _ _ c.copy_from_slice.ensures.after) is.0 is.1 in
      elim c.else-is_valid.branch [
        | else-is_valid-via-then-is_valid+else-len-text w ↦ w.if-len-text.false (w.len.ensures.value ∙ ap (λ x. length (letters x)) (sym same) ∙ ap length is.1)
        | else-is_valid-via-else-is_valid w ↦ both_ways (is_name n.0) (ap is_name same ∙ sym c.is_valid.ensures ∙ w.if-is_valid.false) is.0
      ],
)
