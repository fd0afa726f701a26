-- What a search comes to between two conflicts.
use Rattle.std.specs.Prelude.{List, length}
use Rattle.clause_core.specs.declared.literal.Lit.{Lit}
use Rattle.clause_core.specs.Formula.{Formula}
use Rattle.clause_derivation.specs.declared.chain.Chain.{Chain}
use Rattle.sat_solver.specs.declared.search.Round.{Round}
use Rattle.sat_solver.specs.declared.search.Round.TheVariants.{Ends, Goes}
use Rattle.sat_solver.specs.Naming.{IsKnown}
use Rattle.sat_solver.specs.Answers.{IsAnswer}

-- an answer that is one, or a false clause that is known
abbrev pub IsRound : Formula → List Chain → List Lit → Round → Type 0
IsRound cnf log assumptions (Ends verdict) = IsAnswer cnf assumptions log verdict
IsRound cnf log assumptions (Goes origin depth) = IsKnown (length cnf.clauses) (length log) origin
