use Rattle.std.proofs.Common.{◌≡◌, length, take, drop, ap, ◌∙◌, refl, arith}
use Rattle.forms.specs.Skips.{Behind}
use Rattle.forms.proofs.EntrySteps.{after_last, is_next_lem, no_name, not_after}
use Rattle.forms.proofs.reader.Reader.read_name.Goals as goal
use Rattle.forms.proofs.reader.Reader.read_name.Goals.{else-is_valid-via-then-is_valid+else-lt, else-is_valid-via-else-is_valid}

pub returns-then-lt : goal.returns-then-lt
returns-then-lt c =
    let parts = rw c.in_ok-bytes.ensures.ok_part at c.split_first_chunk.ensures.cases in
    let rest : c.self.inside.rest.now ≡ c.args.self.now.1 = ap (λ (b : Behind). b.1) c.self.view_is in
    let bytes : c.in_ok-bytes.bytes.now ≡ take 4 c.args.self.now.1 = parts.0 ∙ ap (take 4) rest in
    (is_next_lem _ _ _ bytes c.if-is_valid.ensures (after_last c.args.last _ _ c.if-is_valid.ensures c.if-lt.ensures), bytes, ap (λ (b : Behind). b.0) c.self.view_is, parts.1 ∙ ap (drop 4) rest, omega (arith, parts.2, ap length rest))

pub returns-else-is_valid : goal.returns-else-is_valid
returns-else-is_valid c =
    let parts = rw c.in_ok-bytes.ensures.ok_part at c.split_first_chunk.ensures.cases in
    let rest : c.self.inside.rest.now ≡ c.args.self.now.1 = ap (λ (b : Behind). b.1) c.self.view_is in
    let bytes : c.in_ok-bytes.bytes.now ≡ take 4 c.args.self.now.1 = parts.0 ∙ ap (take 4) rest in (
      refl,
      elim c.else-is_valid.branch [
        | else-is_valid-via-then-is_valid+else-lt w ↦ not_after _ _ _ bytes w.if-is_valid.ensures (after_last c.args.last _ _ w.if-is_valid.ensures w.if-lt.ensures)
        | else-is_valid-via-else-is_valid w ↦ no_name _ _ _ bytes w.if-is_valid.ensures
      ],
    )
