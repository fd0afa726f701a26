use Rattle.clause_derivation.proofs.TrimLemmas.{Kept}
use Rattle.clause_derivation.proofs.trimming.keep_needed.Given as goal

abbrev pub invariant-loop-i : goal.invariant-loop-i
invariant-loop-i l = Kept l.base l.chains l.needed l.i l.dropped.items l.out.items
