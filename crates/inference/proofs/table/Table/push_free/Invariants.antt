use Rattle.std.proofs.Common.{◌≡◌, ◌++◌, replicate}
use Rattle.typing.specs.declared.cell.Cell.TheVariants.{Free}
use Rattle.inference.specs.Tables.{graph_of}
use Rattle.inference.proofs.table.Table.push_free.Given as goal

abbrev pub invariant-loop-made : goal.invariant-loop-made
invariant-loop-made l = graph_of l.self ≡ graph_of l.initial.self ++ replicate l._made Free
