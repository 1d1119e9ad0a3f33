use Rattle.std.proofs.Common.{refl, arith}
use Rattle.type_text.proofs.Growing.{grew_put}
use Rattle.type_text.proofs.print.Printer.put.Goals as goal

pub returns-clause-text : goal.returns-clause-text
returns-clause-text c =
    (refl, grew_put c.args.piece.now c.args.self.now.out.now c.copy_from_slice.new.self c.args.self.now.at (omega (arith, c.if-self-piece.false, c.args.self.now.within)) c.copy_from_slice.ensures.after c.args.self.now _ refl refl refl refl)
