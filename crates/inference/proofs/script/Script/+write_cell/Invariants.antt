use Rattle.inference.proofs.script.Script.+write_cell.Given as goal

abbrev pub decreases-write_cell : goal.decreases-write_cell
decreases-write_cell l = l.depth
