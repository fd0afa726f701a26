-- Systems of states in bits: which formulas say what a start and a step are, and which literals are
-- the bits.
use Rattle.std.specs.Prelude.{◌≡◌, ◌≢◌, ◌<◌, ◌++◌, List, length, AllPairs}
use Rattle.clause_core.specs.declared.literal.Lit.{Lit}
use Rattle.clause_core.specs.Literal.{variable_of}
use Rattle.clause_core.specs.Formula.{Formula, IsInRange}

-- The starts are the assignments that satisfy `start`, and the steps those that satisfy `step`. The
-- bits of a state are the literals `current`, and those of the state after a step `next`. Whether a
-- state is bad is the literal `bad`, and for the state after a step `bad_next`.
pub record System : Type 0 where
  pub start : Formula
  pub step : Formula
  pub current : List Lit
  pub next : List Lit
  pub bad : Lit
  pub bad_next : Lit

-- What each system keeps: a next bit for each bit, no variable twice among both, and each literal in
-- range of the formulas that speak of it.
pub record IsSystem (s : System) : Type 0 where
  pub lengths : length s.current ≡ length s.next
  pub distinct : AllPairs (λ l m. variable_of l ≢ variable_of m) (s.current ++ s.next)
  pub current_in_start : IsInRange s.start.variables s.current
  pub current_in_step : IsInRange s.step.variables s.current
  pub next_in_step : IsInRange s.step.variables s.next
  pub bad_in_start : variable_of s.bad < s.start.variables
  pub bad_in_step : variable_of s.bad < s.step.variables
  pub bad_next_in_step : variable_of s.bad_next < s.step.variables
