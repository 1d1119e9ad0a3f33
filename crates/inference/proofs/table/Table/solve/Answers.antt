use Rattle.std.proofs.Common.{◌≡◌, length, sym, subst, arith}
use Rattle.inference.specs.Tables.{graph_of}
use Rattle.inference.specs.Worklists.{pairs_of}
use Rattle.inference.specs.Writings.{EntriesWithin}
use Rattle.inference.proofs.Unifying.{long_after}
use Rattle.inference.proofs.table.Table.solve.Goals as goal

pub write_form-requires-clause-within : goal.write_form-requires-clause-within
write_form-requires-clause-within c =
    let g = graph_of c.args.self.now in
    let long : length c.unify.new.self.cells.now ≡ length g = long_after g _ c.unify.new.self.cells.now (pairs_of c.args.pairs.now) c.new-graph.ensures c.requires.tidy c.requires.within c.in_ok-unify.ensures in
    subst (λ m. EntriesWithin m c.args.entries.now) (sym long) c.requires.entries

pub write_form-requires-clause-inside : goal.write_form-requires-clause-inside
write_form-requires-clause-inside c =
    let g = graph_of c.args.self.now in
    let long = long_after g _ c.unify.new.self.cells.now (pairs_of c.args.pairs.now) c.new-graph.ensures c.requires.tidy c.requires.within c.in_ok-unify.ensures in
    omega (arith, long, c.requires.inside)
