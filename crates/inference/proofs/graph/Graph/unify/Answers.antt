use Rattle.std.proofs.Common.{◌++◌, reverse, refl, ap, ◌∙◌, arith}
use Rattle.typing.specs.Cells.{more}
use Rattle.inference.specs.Meetings.{pairs_in}
use Rattle.inference.proofs.Running.{going_first, passed, passed_less, parted, parted_less, parts_room, none_left}
use Rattle.inference.proofs.graph.Graph.unify.Goals as goal

pub loop-a-init : goal.loop-a-init
loop-a-init c = going_first _ _ c.requires.within c.requires.room

pub push-requires-in-Some-2 : goal.push-requires-in-Some-2
push-requires-in-Some-2 c =
    let g' = c.equate.new.self.cells.now in
    let rest = reverse c.pop.new.self.items in
    let parts = c.in-Some-2.parts in
    let is = c.in_ok-parts.ensures.step rest ∙ ap (λ o. more g' (pairs_in o ++ rest)) c.in-Some-2.is in
    (omega arith, parts_room _ _ c.loop-a.self.cells.now c.loop-a.self.tidy _ _ _ c.in-Some.ensures.items c.loop-a.invariant g' parts.functions parts.arguments is _ _ c.push.ensures.items refl)

pub loop-a-smaller-in-Some-2 : goal.loop-a-smaller-in-Some-2
loop-a-smaller-in-Some-2 c =
    let g' = c.equate.new.self.cells.now in
    let rest = reverse c.pop.new.self.items in
    let parts = c.in-Some-2.parts in
    let is = c.in_ok-parts.ensures.step rest ∙ ap (λ o. more g' (pairs_in o ++ rest)) c.in-Some-2.is in
    parted_less _ _ c.loop-a.self.cells.now c.loop-a.self.tidy _ _ _ c.in-Some.ensures.items c.loop-a.invariant g' parts.functions parts.arguments is _ c.push-in-Some-2.new.self.items c.push.ensures.items c.push-in-Some-2.ensures.items

pub loop-a-preserved-in-Some-2 : goal.loop-a-preserved-in-Some-2
loop-a-preserved-in-Some-2 c =
    let g' = c.equate.new.self.cells.now in
    let rest = reverse c.pop.new.self.items in
    let parts = c.in-Some-2.parts in
    let is = c.in_ok-parts.ensures.step rest ∙ ap (λ o. more g' (pairs_in o ++ rest)) c.in-Some-2.is in
    parted _ _ c.loop-a.self.cells.now c.loop-a.self.tidy _ _ _ c.in-Some.ensures.items c.loop-a.invariant g' parts.functions parts.arguments is _ c.push-in-Some-2.new.self.items c.push.ensures.items c.push-in-Some-2.ensures.items

pub loop-a-smaller : goal.loop-a-smaller
loop-a-smaller c =
    let g' = c.equate.new.self.cells.now in
    let rest = reverse c.pop.new.self.items in
    let is = c.in_ok-parts.ensures.step rest ∙ ap (λ o. more g' (pairs_in o ++ rest)) (none_left _ c.in_default-2.not-Some) in
    passed_less _ _ c.loop-a.self.cells.now c.loop-a.self.tidy _ _ _ c.in-Some.ensures.items c.loop-a.invariant g' is

pub loop-a-preserved : goal.loop-a-preserved
loop-a-preserved c =
    let g' = c.equate.new.self.cells.now in
    let rest = reverse c.pop.new.self.items in
    let is = c.in_ok-parts.ensures.step rest ∙ ap (λ o. more g' (pairs_in o ++ rest)) (none_left _ c.in_default-2.not-Some) in
    passed _ _ c.loop-a.self.cells.now c.loop-a.self.tidy _ _ _ c.in-Some.ensures.items c.loop-a.invariant g' is
