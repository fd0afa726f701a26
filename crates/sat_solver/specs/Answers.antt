-- What a solver keeps, and what its answers say.
use Rattle.std.specs.Prelude.{◌≡◌, ◌+◌, ℕ, Bool, true, false, List, length, map, All, IsTrue, IsSomeAnd, slice_get}
use Rattle.std.specs.List.{list_all}
use Rattle.clause_core.specs.declared.literal.Lit.{Lit}
use Rattle.clause_core.specs.Literal.{opposite}
use Rattle.clause_core.specs.Truth.{literal_true, all_true}
use Rattle.clause_core.specs.Formula.{Formula}
use Rattle.clause_derivation.specs.declared.chain.Chain.{Chain}
use Rattle.clause_core.specs.Members.{has, NoneTwice}
use Rattle.sat_solver.specs.declared.verdict.Verdict.{Verdict}
use Rattle.sat_solver.specs.declared.verdict.Verdict.TheVariants.{Satisfied, Core}

-- what callers see of a solver: the clauses that were added, and the chains in the order of making
pub record Reasoning : Type 0 where
  pub cnf : Formula
  pub log : List Chain

-- no literal stands among these together with its opposite
abbrev pub AreConsistent : List Lit → Type 0
AreConsistent lits = (l : Lit) → has lits l ≡ true → has lits (opposite l) ≡ false

-- an assignment satisfies the clauses, and makes each assumption true
pub record Satisfies (a : List Bool) (clauses : List (List Lit)) (assumptions : List Lit) : Type 0 where
  pub clauses_true : IsTrue (all_true a clauses)
  pub assumptions_true : IsTrue (list_all (literal_true a) assumptions)

-- each literal of a clause is the opposite of one of these
abbrev pub AreOpposites : List Lit → List Lit → Type 0
AreOpposites used c = All (λ l. has used (opposite l) ≡ true) c

-- The used literals are among the assumptions, none of them twice, and the last chain of the log, at
-- that place, derives the clause of their opposites: the empty clause, where none is used.
pub record IsCore (assumptions : List Lit) (log : List Chain) (used : List Lit) (at : ℕ) : Type 0 where
  pub among : All (λ l. has assumptions l ≡ true) used
  pub once : NoneTwice used
  pub last : at + 1 ≡ length log
  pub derived : IsSomeAnd (slice_get log at) (λ ch. ch.result ≡ map opposite used)

-- what holds of a satisfying assignment, if the answer is one
abbrev pub IfSatisfied : Verdict → (List Bool → Type 0) → Type 0
IfSatisfied (Satisfied a) P = P a
IfSatisfied (Core used at) P = Unit {0}

-- what holds of a core, if the answer is one
abbrev pub IfCore : Verdict → (List Lit → ℕ → Type 0) → Type 0
IfCore (Satisfied a) P = Unit {0}
IfCore (Core used at) P = P used at

-- what an answer says
abbrev pub IsAnswer : Formula → List Lit → List Chain → Verdict → Type 0
IsAnswer cnf assumptions log (Satisfied a) =
    Satisfies a cnf.clauses assumptions × (length a ≡ cnf.variables)
IsAnswer cnf assumptions log (Core used at) = IsCore assumptions log used at
