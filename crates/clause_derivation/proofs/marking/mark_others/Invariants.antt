use Rattle.std.proofs.Common.{take}
use Rattle.clause_derivation.specs.Resolution.{without}
use Rattle.clause_derivation.proofs.MarkLemmas.{AreMarkedToo}
use Rattle.clause_derivation.proofs.marking.mark_others.Given as goal

abbrev pub invariant-loop-l : goal.invariant-loop-l
invariant-loop-l l = AreMarkedToo l.fn.marked l.marked (without (take l.l-index l.lits) l.but)
