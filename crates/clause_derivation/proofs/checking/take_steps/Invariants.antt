use Rattle.std.proofs.Common.{take}
use Rattle.std.specs.Prelude.{fold, slice_get}
use Rattle.clause_derivation.specs.Derivation.{next}
use Rattle.clause_derivation.specs.Numbering.{clauses_of}
use Rattle.clause_derivation.proofs.ChainLemmas.{Ran}
use Rattle.clause_derivation.proofs.checking.take_steps.Given as goal

abbrev pub invariant-loop-step : goal.invariant-loop-step
invariant-loop-step l = Ran l.marked (fold (next (clauses_of l.numbered)) (slice_get (clauses_of l.numbered) l.chain.first) (take l.step-index l.chain.steps))
