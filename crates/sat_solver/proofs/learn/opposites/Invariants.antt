use Rattle.std.proofs.Common.{◌≡◌, take, map}
use Rattle.clause_core.specs.Literal.{opposite}
use Rattle.sat_solver.proofs.learn.opposites.Given as goal

abbrev pub invariant-loop-l : goal.invariant-loop-l
invariant-loop-l l = l.out.items ≡ map opposite (take l.l-index l.lits)
