use Rattle.std.proofs.Common.{arith}
use Rattle.reading.specs.NamesLaws.{named_sound}
use Rattle.question.proofs.Telling.{asked_told, for_source}
use Rattle.question.proofs.line.ask_source.Goals as goal

pub returns : goal.returns
returns c =
    for_source c.args.source c.args.symbol _ c.ask_strings.new.out c.ask_strings.result
    (asked_told _ _ c.in_ok-new.field-0 _ c.args.symbol _ c.args.out.now c.ask_strings.new.out named_sound c.requires.fit (omega (arith, c.in_ok-new.ensures.made.0)) (omega arith) c.ask_strings.result c.ask_strings.ensures)
