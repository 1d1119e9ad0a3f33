use Rattle.forms.proofs.Outlining.{outline_is}
use Rattle.forms.proofs.Tokens.{bytes_each}
use Rattle.forms.proofs.outline.read_typing.Goals as goal

pub returns : goal.returns
returns c =
    let first = rw c.in_ok-status.ensures.ok_part at c.split_first.ensures.cases in
    outline_is _ _ _ first.0 (bytes_each _ (λ i. (c.type_inv.text i).fits)) _ _ _ _ _ _ c.in_ok-clashes.ensures.0 c.in_ok-overlongs.ensures.0 c.in_ok-holes.ensures.0 _ c.in_ok-form.ensures
