use Rattle.std.proofs.Common.{length, refl, ◌∙◌, inl, inr, arith}
use Rattle.std.proofs.lemmas.Bool.{le-leb, lt-leb}
use Rattle.notation.specs.Texts.{text_of}
use Rattle.notation.proofs.EditLines.{wrote_fits, written_some}
use Rattle.notation.proofs.Edits.{rebuilds}
use Rattle.notation.proofs.ParseBack.{parses_back}
use Rattle.notation.proofs.edit_lines.write_edit_lines.Goals as goal

pub returns-then-out-lt-MAX_ANSWER : goal.returns-then-out-lt-MAX_ANSWER
returns-then-out-lt-MAX_ANSWER c =
    record { answer = rw (lt-leb 57344 (length c.args.out.now) c.if-out-lt-MAX_ANSWER.true) (refl, refl); meaning = rebuilds; fields = parses_back }

pub returns-in-Err : goal.returns-in-Err
returns-in-Err c =
    let t = c.no_line.result in
    let (told, is) = wrote_fits (text_of t) _ _ _ (omega (arith, c.no_line.ensures.len)) c.copy_to.ensures in
    record {
      answer = rw (le-leb 57344 (length c.args.out.now) c.if-out-lt-MAX_ANSWER.false)
          (text_of t, inr (c.in-Err.fault, c.in-Err.ensures.answer, c.no_line.ensures.text), told, is);
      meaning = rebuilds;
      fields = parses_back;
    }

pub returns-in-Ok : goal.returns-in-Ok
returns-in-Ok c =
    let g = c.in-Ok.ensures.answer in
    let (told, is) = written_some _ _ _ c.write_tree.result _ (c.write_tree.ensures g.tree g.file g.shallow (omega (arith, g.small))) in
    record {
      answer = rw (le-leb 57344 (length c.args.out.now) c.if-out-lt-MAX_ANSWER.false)
          (_, inl (g.tree, g.file, g.shallow, g.small, refl), c.ok_or.ensures.value ∙ told, is);
      meaning = rebuilds;
      fields = parses_back;
    }
