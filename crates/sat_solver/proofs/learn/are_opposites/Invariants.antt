use Rattle.std.proofs.Common.{take}
use Rattle.sat_solver.specs.Answers.{AreOpposites}
use Rattle.sat_solver.proofs.learn.are_opposites.Given as goal

abbrev pub invariant-loop-l : goal.invariant-loop-l
invariant-loop-l l = AreOpposites l.assumptions (take l.l-index l.lits)
