use Rattle.term_rows.proofs.both_sides.+closed.Given as goal

abbrev pub decreases-closed : goal.decreases-closed
decreases-closed l = l.count
