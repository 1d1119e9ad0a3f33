use Rattle.std.proofs.Common.{◌+◌, ◌-◌, ◌*◌, length}
use Rattle.notation.proofs.edit_lines.+write_trees.Given as goal

abbrev pub decreases-write_trees : goal.decreases-write_trees
decreases-write_trees l = 4 * (41 - length l.path.now.items) + l.count
