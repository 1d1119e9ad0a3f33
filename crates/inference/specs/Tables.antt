-- The graph that a table holds. Assumes nothing.
use Rattle.std.specs.Prelude.{◌≡◌, ℕ, ◌≤◌, [], ◌∷◌, ◌++◌, length, take, Result, MatchResult}
use Rattle.syntax.specs.declared.fault.Fault.{Fault}
use Rattle.typing.specs.Cells.{Graph}
use Rattle.typing.specs.declared.cell.Cell.{Cell}
use Rattle.inference.specs.declared.table.Table.{Table}

abbrev pub graph_of : Table → Graph
graph_of t = take t.len t.cells

-- how many cells a table can hold
abbrev pub most_cells : ℕ
most_cells = 1440

-- The cell is behind those of the graph, and the answer is its number; or there was no room.
abbrev pub Pushed : Cell → Graph → Graph → Result ℕ Fault → Type 0
Pushed c g g' r = MatchResult r (λ n. (n ≡ length g) × (g' ≡ g ++ c ∷ [])) (λ fault. most_cells ≤ length g)
