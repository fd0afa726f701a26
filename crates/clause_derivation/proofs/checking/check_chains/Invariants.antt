use Rattle.clause_derivation.specs.Numbering.{base_of}
use Rattle.clause_derivation.proofs.DerivationLemmas.{Checked}
use Rattle.clause_derivation.proofs.checking.check_chains.Given as goal

abbrev pub invariant-loop-i : goal.invariant-loop-i
invariant-loop-i l = Checked (base_of l.base) l.chains l.i l.marked
