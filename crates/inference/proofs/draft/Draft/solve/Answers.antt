use Rattle.std.proofs.Common.{length, sym, subst}
use Rattle.inference.specs.Drafts.{SlotsWithin}
use Rattle.inference.specs.Slots.{slots_of}
use Rattle.inference.specs.Tables.{graph_of}
use Rattle.inference.proofs.DraftSteps.{entries_within}
use Rattle.inference.proofs.draft.Draft.solve.Goals as goal

pub solve-requires-clause-entries : goal.solve-requires-clause-entries
solve-requires-clause-entries c =
    let n = length (graph_of c.args.self.now.table.now) in
    entries_within n _ (subst (λ es. SlotsWithin n (slots_of es)) (sym c.as_slice.ensures.value) c.requires.inside)
