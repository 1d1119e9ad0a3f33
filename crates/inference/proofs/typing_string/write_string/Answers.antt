use Rattle.std.proofs.Common.{◌+◌, length, set, sym, ap, ◌∙◌, arith}
use Rattle.layout.specs.Groups.{group}
use Rattle.inference.specs.Outcomes.{byte_of, bytes_of}
use Rattle.inference.specs.TypingStrings.{put_at}
use Rattle.inference.proofs.StringWriting.{string_put, put_none}
use Rattle.inference.proofs.typing_string.write_string.Goals as goal

pub returns-in-Ok : goal.returns-in-Ok
returns-in-Ok c =
    let o = c.args.outcome.now in
    let t = c.args.tally in
    let out = c.args.out.now in
    let one = c.put_count-overlongs in
    let two = c.put_count-holes in
    let three = c.put_count-form in
    let text = c.deref.ensures.0 ∙ ap bytes_of (sym c.in-Ok.is) in
    let whole = string_put (byte_of o) (group t.clashes) (group t.overlongs) (group t.holes) (bytes_of o) out one.new.out two.new.out three.new.out c.put.new.out one.result two.result three.result c.put.result (omega (arith, c.requires.room)) one.ensures.end (one.ensures.wrote ∙ ap (λ s. put_at 1 (group t.clashes) (set out 0 s)) c.status.ensures) two.ensures.end two.ensures.wrote three.ensures.end three.ensures.wrote (c.put.ensures.end ∙ ap (λ bytes. three.result + length bytes) text) (c.put.ensures.wrote ∙ ap (λ bytes. put_at three.result bytes three.new.out) text) in
    record { long = whole.0; wrote = whole.1 }

pub returns-in-Err : goal.returns-in-Err
returns-in-Err c =
    let o = c.args.outcome.now in
    let t = c.args.tally in
    let out = c.args.out.now in
    let one = c.put_count-overlongs in
    let two = c.put_count-holes in
    let three = c.put_count-form in
    let none = ap bytes_of (sym c.in-Err.is) in
    let whole = string_put (byte_of o) (group t.clashes) (group t.overlongs) (group t.holes) (bytes_of o) out one.new.out two.new.out three.new.out three.new.out one.result two.result three.result three.result (omega (arith, c.requires.room)) one.ensures.end (one.ensures.wrote ∙ ap (λ s. put_at 1 (group t.clashes) (set out 0 s)) c.status.ensures) two.ensures.end two.ensures.wrote three.ensures.end three.ensures.wrote (omega (arith, ap length none)) (put_none three.new.out three.result ∙ ap (λ bytes. put_at three.result bytes three.new.out) none) in
    record { long = whole.0; wrote = whole.1 }
