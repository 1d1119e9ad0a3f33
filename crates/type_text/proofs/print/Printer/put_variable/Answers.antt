use Rattle.std.proofs.Common.{codes, decimal}
use Rattle.type_text.proofs.Growing.{put_after}
use Rattle.type_text.proofs.print.Printer.put_variable.Goals as goal

pub returns-clause-text : goal.returns-clause-text
returns-clause-text c =
    put_after (codes "v") (decimal c.args.k) c.args.self.now c.put.new.self c.put-2.new.self c.put-2.result c.in_ok-put.ensures.text (rw (c.as_bytes.ensures.value, c.format.ensures.text) at c.put-2.ensures.text)
