use Rattle.std.proofs.Common.{take, ◌++◌}
use Rattle.clause_derivation.specs.Marking.{Unmarks}
use Rattle.clause_derivation.specs.Numbering.{clauses_of, named}
use Rattle.clause_derivation.proofs.ChainLemmas.{named_by}
use Rattle.clause_derivation.proofs.checking.unmark_touched.Given as goal

abbrev pub invariant-loop-step : goal.invariant-loop-step
invariant-loop-step l = Unmarks l.fn.marked l.marked (named (clauses_of l.numbered) l.chain.first ++ named_by (clauses_of l.numbered) (take l.step-index l.chain.steps)) l.clean
