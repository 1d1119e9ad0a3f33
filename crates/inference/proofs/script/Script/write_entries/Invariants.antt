use Rattle.inference.specs.Writings.{EntriesGo}
use Rattle.inference.proofs.script.Script.write_entries.Given as goal

abbrev pub invariant-loop-entry : goal.invariant-loop-entry
invariant-loop-entry l = EntriesGo l.graph.cells.now l.entries l.entry-index l.initial.self l.self
