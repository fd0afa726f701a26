use Rattle.std.proofs.Common.{take}
use Rattle.clause_derivation.specs.Marking.{Unmarks}
use Rattle.clause_derivation.proofs.marking.unmark_all.Given as goal

abbrev pub invariant-loop-l : goal.invariant-loop-l
invariant-loop-l l = Unmarks l.fn.marked l.marked (take l.l-index l.lits) l.clean
