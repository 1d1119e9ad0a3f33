use Rattle.std.proofs.Common.{◌≤◌, length, ap, ◌∙◌, arith}
use Rattle.std.proofs.lemmas.List.{length-map}
use Rattle.reading.specs.Readings.{texts}
use Rattle.inference.specs.Drafts.{unknowns, with_graph}
use Rattle.inference.proofs.NodeFacts.{few, room_children, room_now, ready_now, concludes_now}
use Rattle.inference.proofs.node.infer_over.Goals as goal

pub add_children-requires : goal.add_children-requires
add_children-requires c =
    let parts = c.args.parts.now in
    let small : length parts ≤ 3 = omega (arith, few c.args.symbol (texts parts) c.requires.lawful, length-map parts (λ slice. slice.now)) in
    record { types = omega (arith, small); base = omega (arith, small); empty = c.new-draft.ensures ∙ ap (with_graph (unknowns 0)) c.requires.empty }

pub returns-in_err-fresh : goal.returns-in_err-fresh
returns-in_err-fresh c = absurd (c.in_err-fresh.ensures _ c.requires.lawful.reads (room_children c.args.symbol _ c.requires.lawful))

pub returns-in_err-result : goal.returns-in_err-result
returns-in_err-result c =
    let added = c.in_ok-fresh.ensures _ c.requires.lawful.reads (room_children c.args.symbol _ c.requires.lawful) in
    absurd (c.in_err-result.ensures (room_now c.args.symbol _ c.requires.lawful _ _ _ added))

pub solve-requires : goal.solve-requires
solve-requires c =
    let added = c.in_ok-fresh.ensures _ c.requires.lawful.reads (room_children c.args.symbol _ c.requires.lawful) in
    ready_now c.args.symbol _ c.requires.lawful _ _ _ added _ _ (c.in_ok-result.ensures (room_now c.args.symbol _ c.requires.lawful _ _ _ added))

pub returns : goal.returns
returns c =
    let added = c.in_ok-fresh.ensures _ c.requires.lawful.reads (room_children c.args.symbol _ c.requires.lawful) in
    concludes_now c.args.symbol _ c.requires.lawful _ _ _ added _ _ _ (c.in_ok-result.ensures (room_now c.args.symbol _ c.requires.lawful _ _ _ added)) c.solve.ensures
