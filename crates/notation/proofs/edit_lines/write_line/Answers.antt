use Rattle.notation.specs.Texts.{text_of}
use Rattle.notation.proofs.EditLines.{adds_made, wrote_some}
use Rattle.notation.proofs.edit_lines.write_line.Goals as goal

pub returns : goal.returns
returns c start text w room =
    let (long, after) = wrote_some (text_of c.put_line.result) _ _ c.copy_to.result c.in_ok-n.n c.in_ok-n.ensures.value c.copy_to.ensures in
    adds_made start text _ _ w _ _ _ _ c.put_line.ensures long after
