use Rattle.clause_derivation.proofs.RangeLemmas.{results_range, pivots_range}
use Rattle.clause_derivation.proofs.derivation.derivations_stay_in_range.Goals as goal

pub returns-clause-results : goal.returns-clause-results
returns-clause-results c n clauses chains a d = results_range n clauses chains a d

pub returns-clause-pivots : goal.returns-clause-pivots
returns-clause-pivots c n clauses chains a d = pivots_range n clauses chains a d
