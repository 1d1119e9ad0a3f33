use Rattle.inference.proofs.join.+add_entries.Given as goal

abbrev pub decreases-add_entries : goal.decreases-add_entries
decreases-add_entries l = l.count
