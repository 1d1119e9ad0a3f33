use Rattle.std.proofs.Common.{ap, ◌∙◌, arith}
use Rattle.std.proofs.lemmas.Result.{err_from_is_err_and}
use Rattle.typing.specs.Heads.{type, place}
use Rattle.typing.specs.declared.head.Head.TheVariants.{Num, Fun, Rec, Absent}
use Rattle.forms.specs.Skips.{skip_terms}
use Rattle.forms.proofs.Skipping.{skip_nil, skip_then, skip_stop, places_left, no_places_left, skipped_at, took_head}
use Rattle.forms.proofs.reader.Reader.+reads_term.Goals as goal

pub read_place-returns-in-Head-Absent-clause-value : goal.read_place-returns-in-Head-Absent-clause-value
read_place-returns-in-Head-Absent-clause-value t c =
    took_head c.args.self.now c.token.new.self _ c.in_ok-k.ensures.0 _ Absent c.in-Head-Absent.is c.in-Head-Absent.field-0-is place ∙ skip_nil _ _

pub read_type-returns-in-Head-Num-clause-value : goal.read_type-returns-in-Head-Num-clause-value
read_type-returns-in-Head-Num-clause-value t c =
    took_head c.args.self.now c.token.new.self _ c.in_ok-k.ensures.0 _ Num c.in-Head-Num.is c.in-Head-Num.field-0-is type ∙ skip_nil _ _

pub read_type-returns-in_err-read_type-in-Head-Fun-clause-value : goal.read_type-returns-in_err-read_type-in-Head-Fun-clause-value
read_type-returns-in_err-read_type-in-Head-Fun-clause-value t c =
    let parts = took_head c.args.self.now c.token.new.self _ c.in_ok-k.ensures.0 _ Fun c.in-Head-Fun.is c.in-Head-Fun.field-0-is type in
    let p = err_from_is_err_and c.from_residual-in_err-read_type-in-Head-Fun.result c.from_residual-in_err-read_type-in-Head-Fun.ensures.1 in
    let why = c.in_err-read_type-in-Head-Fun.ensures.value in
    rw (p.1, p.2) (why.0, parts ∙ skip_stop _ _ _ _ why.1)

pub read_type-returns-in_ok-read_type-in-Head-Fun-clause-value : goal.read_type-returns-in_ok-read_type-in-Head-Fun-clause-value
read_type-returns-in_ok-read_type-in-Head-Fun-clause-value t c =
    let parts = took_head c.args.self.now c.token.new.self _ c.in_ok-k.ensures.0 _ Fun c.in-Head-Fun.is c.in-Head-Fun.field-0-is type in
    skipped_at _ _ _ _ (parts ∙ skip_then _ _ _ _ _ _ c.in_ok-read_type-in-Head-Fun.ensures.value) c.read_type-in-Head-Fun.ensures.value

pub read_type-returns-in_err-read_place-in-Head-Rec-clause-value : goal.read_type-returns-in_err-read_place-in-Head-Rec-clause-value
read_type-returns-in_err-read_place-in-Head-Rec-clause-value t c =
    let parts = took_head c.args.self.now c.token.new.self _ c.in_ok-k.ensures.0 _ Rec c.in-Head-Rec.is c.in-Head-Rec.field-0-is type in
    let p = err_from_is_err_and c.from_residual-in_err-read_place-in-Head-Rec.result c.from_residual-in_err-read_place-in-Head-Rec.ensures.1 in
    let why = c.in_err-read_place-in-Head-Rec.ensures.value in
    let left = ap (λ ss. skip_terms ss c.loop-label.self.0 c.loop-label.self.1) (places_left place 4 c.loop-label._label (omega arith)) in
    rw (p.1, p.2) (why.0, parts ∙ c.loop-label.invariant.0 ∙ left ∙ skip_stop _ _ _ _ why.1)

pub read_type-loop-label-preserved : goal.read_type-loop-label-preserved
read_type-loop-label-preserved t c =
    let left = ap (λ ss. skip_terms ss c.loop-label.self.0 c.loop-label.self.1) (places_left place 4 c.loop-label._label (omega arith)) in
    let went = c.in_ok-read_place-in-Head-Rec.ensures in
    (c.loop-label.invariant.0 ∙ left ∙ skip_then _ _ _ _ _ _ went.value, omega (arith, went.shorter))

pub read_type-returns-after-loop-label-clause-value : goal.read_type-returns-after-loop-label-clause-value
read_type-returns-after-loop-label-clause-value t c =
    let parts = took_head c.args.self.now c.token.new.self _ c.in_ok-k.ensures.0 _ Rec c.in-Head-Rec.is c.in-Head-Rec.field-0-is type in
    let left = ap (λ ss. skip_terms ss c.loop-label.self.0 c.loop-label.self.1) (no_places_left place 4 c.loop-label._label (omega arith)) in
    parts ∙ c.loop-label.invariant.0 ∙ left ∙ skip_nil _ _
