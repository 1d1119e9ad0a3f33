use Rattle.std.proofs.Common.{◌<◌, sym, ap, ◌∙◌, arith}
use Rattle.reading.specs.NameStrings.{fours, key, rising}
use Rattle.reading.specs.Fours.{rises_more}
use Rattle.reading.proofs.name_set.+rises.Goals as goal

pub returns-then-last-here : goal.returns-then-last-here
returns-then-last-here t c =
    let cut = c.in-Some.ensures.cases in
    let four = c.in-Some.four.now in
    let above : c.args.last < key (record { 0 = four }) = omega arith in
    c.rises.ensures
    ∙ ap (λ k. rising k (fours c.in-Some.rest.now)) c.key-here.ensures
    ∙ rises_more c.args.last c.args.bytes.now four c.in-Some.rest.now cut.0 cut.1 cut.2 (sym c.if-not-is_valid.ensures) above
