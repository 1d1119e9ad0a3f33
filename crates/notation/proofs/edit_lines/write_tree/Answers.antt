use Rattle.std.proofs.Common.{[], ◌∷◌, ◌++◌, refl, ap, ◌∙◌, subst}
use Rattle.notation.specs.EditAnswers.{Written}
use Rattle.notation.proofs.EditLines.{roots, unwritten}
use Rattle.notation.proofs.edit_lines.write_tree.Goals as goal

pub returns-in_err-at : goal.returns-in_err-at
returns-in_err-at c t file shallow room =
    let (fit, front) = c.in_ok-symbol.ensures in
    let dot = c.push.ensures.items ∙ ap (λ z. z ++ 46 ∷ []) c.new-path.ensures in
    let r = roots _ _ _ _ _ t c.args.out.now fit front dot refl file shallow room in
    rw c.from_residual-in_err-at.ensures (c.in_err-at.ensures _ [] (unwritten _) r.line_room)

pub returns-in_err-at-2 : goal.returns-in_err-at-2
returns-in_err-at-2 c t file shallow room =
    let (fit, front) = c.in_ok-symbol.ensures in
    let dot = c.push.ensures.items ∙ ap (λ z. z ++ 46 ∷ []) c.new-path.ensures in
    let r = roots _ _ _ _ _ t c.args.out.now fit front dot c.arity.ensures file shallow room in
    let line = c.in_ok-at.ensures _ [] (unwritten _) r.line_room in
    rw c.from_residual-in_err-at-2.ensures (c.in_err-at-2.ensures.lines [] _ [] _ _ r.below line r.below_room)

pub returns : goal.returns
returns c t file shallow room =
    let (fit, front) = c.in_ok-symbol.ensures in
    let dot = c.push.ensures.items ∙ ap (λ z. z ++ 46 ∷ []) c.new-path.ensures in
    let r = roots _ _ _ _ _ t c.args.out.now fit front dot c.arity.ensures file shallow room in
    let line = c.in_ok-at.ensures _ [] (unwritten _) r.line_room in
    let (end, all) = c.in_ok-at-2.ensures.lines [] _ [] _ _ r.below line r.below_room in
    subst (λ z. Written c.args.out.now z c.in_ok-at-2.at c.write_trees.new.out) r.all all
