use Rattle.std.proofs.Common.{drop}
use Rattle.sat_solver.proofs.MarkLemmas.{Gathers}
use Rattle.sat_solver.proofs.marking.gather.Given as goal

abbrev pub invariant-loop-l : goal.invariant-loop-l
invariant-loop-l l = Gathers l.fn.marked l.marked l.out.items (drop l.l-index l.touched)
