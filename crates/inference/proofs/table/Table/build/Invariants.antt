use Rattle.std.proofs.Common.{◌≡◌, drop}
use Rattle.inference.specs.Builds.{apply_all}
use Rattle.inference.specs.Tables.{graph_of}
use Rattle.inference.proofs.table.Table.build.Given as goal

abbrev pub invariant-loop-part : goal.invariant-loop-part
invariant-loop-part l = apply_all (graph_of l.self) l.cell (drop l.part-index l.parts) ≡ apply_all (graph_of l.initial.self) l.initial.cell l.parts
