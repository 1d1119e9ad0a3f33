use Rattle.std.proofs.Common.{[], ◌∷◌, ◌++◌, length, sym, ap, ◌∙◌}
use Rattle.std.proofs.lemmas.Result.{MatchResult-from_err}
use Rattle.inference.proofs.Writing.{variable_full, variable_new, variable_old}
use Rattle.inference.proofs.script.Script.write_variable.Goals as goal

pub returns-in_err-push_group : goal.returns-in_err-push_group
returns-in_err-push_group c =
    MatchResult-from_err _ _ _ c.from_residual.ensures.0 (λ e. variable_full c.args.cell _ c.args.self.now.seen.items c.place-place.ensures.value _ c.in_err-push_group.ensures)

pub returns-then-place-len : goal.returns-then-place-len
returns-then-place-len c =
    let added = c.in_ok-push_group.ensures in
    variable_new c.args.cell c.place-place.result c.args.self.now.seen.items c.place-place.ensures.value c.args.self.now.text.items _ _ (c.if-place-len.true ∙ c.len.ensures.value ∙ ap length added.1) added.0 (c.push.ensures.items ∙ ap (λ seen. seen ++ c.args.cell ∷ []) added.1)

pub returns-else-place-len : goal.returns-else-place-len
returns-else-place-len c =
    let added = c.in_ok-push_group.ensures in
    let old = variable_old c.args.cell c.place-place.result c.args.self.now.seen.items c.place-place.ensures.value c.args.self.now.text.items _ (λ e. c.if-place-len.false (e ∙ sym (c.len.ensures.value ∙ ap length added.1))) added.0 in
    (old.0, added.1 ∙ old.1)
