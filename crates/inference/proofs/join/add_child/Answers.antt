use Rattle.std.proofs.Common.{◌≤◌, length, drop, arith, rules}
use Rattle.std.proofs.lemmas.List.{take_all, length-drop}
use Rattle.forms.proofs.Tokens.{bytes_each}
use Rattle.inference.proofs.ChildFacts.{at_within, child_formed}
use Rattle.inference.proofs.join.add_child.Goals as goal

pub slice_bounds-add_form-count : goal.slice_bounds-add_form-count
slice_bounds-add_form-count c = at_within _ _ (bytes_each _ (λ i. (c.type_inv.text i).fits)) c.requires c.in-Ok.form c.in-Ok.is

pub slice_bounds-add_form-start : goal.slice_bounds-add_form-start
slice_bounds-add_form-start c =
    let le : c.in-Ok.form.entries_at ≤ length c.args.text.now = at_within _ _ (bytes_each _ (λ i. (c.type_inv.text i).fits)) c.requires c.in-Ok.form c.in-Ok.is in
    search rules

pub returns-in-Ok : goal.returns-in-Ok
returns-in-Ok c =
    let text = c.args.text.now in
    let at = c.in-Ok.form.entries_at in
    child_formed text _ (bytes_each _ (λ i. (c.type_inv.text i).fits)) c.requires _ _ _ _ _ c.in-Ok.form (take_all _ (drop at text) (omega (arith, length-drop at text))) c.in-Ok.is c.add_form.ensures
