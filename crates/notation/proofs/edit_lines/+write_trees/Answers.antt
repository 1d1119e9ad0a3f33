use Rattle.std.proofs.Common.{◌≡◌, ◌+◌, ◌-◌, [], ◌∷◌, length, take, sym, refl, ap, ap₂, ◌∙◌, arith}
use Rattle.std.proofs.lemmas.Bool.{eqb-true, eqb-false}
use Rattle.std.proofs.lemmas.List.{length_push, take_at}
use Rattle.notation.proofs.EditLines.{ahead_as, ahead_at, no_level, none_ahead, steps, written_as}
use Rattle.layout.proofs.Scans.{no_first}
use Rattle.notation.proofs.edit_lines.+write_trees.Goals as goal

pub returns-then-count-eq0-clause-lines : goal.returns-then-count-eq0-clause-lines
returns-then-count-eq0-clause-lines t c p f end start text a w room = none_ahead _ _ _ c.args.next p f end start text _ _ c.if-count-eq0.true a w

pub returns-in_err-symbol-clause-lines : goal.returns-in_err-symbol-clause-lines
returns-in_err-symbol-clause-lines t c =
    rw c.from_residual.ensures (λ p f end start text a w room. no_first _ _ (omega arith) c.in_err-symbol.ensures f end a.begins)

pub returns-then-is_full-clause-lines : goal.returns-then-is_full-clause-lines
returns-then-is_full-clause-lines t c p f end start text a w room =
    let full = eqb-true (length c.args.path.now.items) 41 (sym c.if-is_full.ensures.value) in
    no_level _ _ _ p f end (41 - length c.args.path.now.items) (omega arith) (omega (arith, full)) (omega (arith, full)) a

pub returns-in_err-at-clause-lines : goal.returns-in_err-at-clause-lines
returns-in_err-at-clause-lines t c =
    rw c.from_residual-in_err-at.ensures (λ p f end start text a w room.
    let (fit, front) = c.in_ok-symbol.ensures in
    let path = c.args.path.now.items in
    let other = eqb-false (length path) 41 (sym c.if-is_full.ensures.value) in
    let st = steps _ _ _ _ _ _ c.args.next (41 - length path) _ p f end start text (omega arith) (omega (arith, other, c.if-is_full.ensures.fits)) (omega (arith, c.if-is_full.ensures.fits)) fit front c.push.ensures.items refl a room in
    c.in_err-at.ensures start text w st.line_room)

pub returns-in_err-rest-clause-lines : goal.returns-in_err-rest-clause-lines
returns-in_err-rest-clause-lines t c =
    rw c.from_residual-in_err-rest.ensures (λ p f end start text a w room.
    let (fit, front) = c.in_ok-symbol.ensures in
    let path = c.args.path.now.items in
    let other = eqb-false (length path) 41 (sym c.if-is_full.ensures.value) in
    let st = steps _ _ _ _ _ _ c.args.next (41 - length path) _ p f end start text (omega arith) (omega (arith, other, c.if-is_full.ensures.fits)) (omega (arith, c.if-is_full.ensures.fits)) fit front c.push.ensures.items c.arity.ensures a room in
    let line = c.in_ok-at.ensures start text w st.line_room in
    c.in_err-rest.ensures.lines _ _ _ start _ st.below line st.below_room)

pub returns-clause-lines : goal.returns-clause-lines
returns-clause-lines t c p f end start text a w room =
    let (fit, front) = c.in_ok-symbol.ensures in
    let path = c.args.path.now.items in
    let other = eqb-false (length path) 41 (sym c.if-is_full.ensures.value) in
    let st = steps _ _ _ _ _ _ c.args.next (41 - length path) _ p f end start text (omega arith) (omega (arith, other, c.if-is_full.ensures.fits)) (omega (arith, c.if-is_full.ensures.fits)) fit front c.push.ensures.items c.arity.ensures a room in
    let line = c.in_ok-at.ensures start text w st.line_room in
    let (mid, below) = c.in_ok-rest.ensures.lines _ _ _ start _ st.below line st.below_room in
    let pushed = c.in_ok-rest.ensures.path ∙ c.push.ensures.items in
    let less : length c.write_trees.new.path.items - 1 ≡ length path = omega (arith, ap length pushed, length_push path (48 + c.args.next)) in
    let back : c.pop.new.self.items ≡ path =
    c.pop.ensures.rest ∙ ap₂ take less pushed ∙ take_at path ((48 + c.args.next) ∷ []) (length path) refl in
    written_as start end _ _ st.all (c.write_trees-2.ensures.lines p _ end start _ (ahead_as (sym mid) (ahead_at (sym back) st.beside)) below st.beside_room)
