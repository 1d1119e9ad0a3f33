use Rattle.std.proofs.Common.{◌++◌}
use Rattle.syntax.specs.Labels.{label_word}
use Rattle.type_text.proofs.Growing.{put_after}
use Rattle.type_text.proofs.print.Printer.put_label.Goals as goal

pub returns-clause-text : goal.returns-clause-text
returns-clause-text c =
    put_after c.args.gap.now (label_word c.args.label ++ c.args.mark.now) c.args.self.now c.put.new.self c.put-3.new.self c.put-3.result c.in_ok-put.ensures.text (put_after (label_word c.args.label) c.args.mark.now c.put.new.self c.put-2.new.self c.put-3.new.self c.put-3.result (rw (c.word.ensures) at c.in_ok-put-2.ensures.text) c.put-3.ensures.text)
