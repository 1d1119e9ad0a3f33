use Rattle.reading.specs.Readings.{texts}
use Rattle.std.proofs.lemmas.Bool.{both_ways}
use Rattle.inference.specs.Tallies.{all_lawful}
use Rattle.inference.proofs.LawfulNodes.{read_lawful}
use Rattle.inference.proofs.NodeFacts.{rule_written}
use Rattle.inference.proofs.node.write_lawful.Goals as goal

pub returns-in_err-sum_tallies : goal.returns-in_err-sum_tallies
returns-in_err-sum_tallies c =
    absurd (both_ways (all_lawful (texts c.args.parts.now)) c.in_err-sum_tallies.ensures.1 (read_lawful (texts c.args.parts.now) c.requires.lawful.reads))

pub returns : goal.returns
returns c =
    rule_written c.args.symbol (texts c.args.parts.now) c.in_ok-outcome.outcome c.in_ok-sum_tallies.field-0 c.with_node-tally.result _ c.args.out.now _ c.in_ok-outcome.ensures c.in_ok-sum_tallies.ensures.1 c.with_node-tally.ensures.clashes c.with_node-tally.ensures.overlongs c.with_node-tally.ensures.holes c.write_string.ensures.long c.write_string.ensures.wrote
