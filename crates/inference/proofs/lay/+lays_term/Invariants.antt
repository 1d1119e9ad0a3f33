use Rattle.std.proofs.Common.{◌+◌, ◌-◌, ◌*◌, ◌≤◌, length}
use Rattle.typing.specs.Cells.{Graph}
use Rattle.inference.specs.Layouts.{Answer, LaysParts}
use Rattle.inference.specs.Tables.{graph_of}
use Rattle.inference.proofs.lay.+lays_term.Given as goal

-- the bytes fall; a head first asks for a term off the same bytes
abbrev pub decreases-lay_head : goal.decreases-lay_head
decreases-lay_head l = 2 * length l.bytes.now + 1

abbrev pub decreases-lay_term : goal.decreases-lay_term
decreases-lay_term l = 2 * length l.bytes.now

-- what the parts that are left come to is what they all come to
abbrev pub invariant-lay_head-loop-part : goal.invariant-lay_head-loop-part
invariant-lay_head-loop-part l =
    ((g' : Graph) (r : Answer) → LaysParts l.base.cell l.cell (l._part-end - l._part) l.rest (graph_of l.table) g' r → LaysParts l.base.cell l.initial.cell l._part-end l.initial.rest (graph_of l.initial.table) g' r)
    × (length l.rest ≤ length l.initial.rest)
