-- How reasons name clauses, and which literals the named ones have.
use Rattle.std.specs.Prelude.{◌≡◌, ◌++◌, ◌+◌, ◌<◌, ◌≤◌, ◌^◌, ℕ, List, length, true, false}
use Rattle.clause_core.specs.declared.literal.Lit.{Lit}
use Rattle.clause_core.specs.Literal.{opposite}
use Rattle.clause_core.specs.Formula.{AreInRange}
use Rattle.clause_derivation.specs.declared.chain.Chain.{Chain}
use Rattle.clause_derivation.specs.Derivation.{results}
use Rattle.clause_core.specs.Members.{has}
use Rattle.sat_solver.specs.declared.origin.Origin.{Origin}
use Rattle.sat_solver.specs.declared.origin.Origin.TheVariants.{Given, Learned}

-- all that a chain may name: the clauses of a formula, then the results of the chains before it
abbrev pub numbered : List (List Lit) → List Chain → List (List Lit)
numbered clauses chains = clauses ++ results chains

-- the number under which a chain names a clause, where the formula has n clauses
abbrev pub number_of : ℕ → Origin → ℕ
number_of n (Given at) = at
number_of n (Learned at) = n + at

-- a clause of a formula of n clauses, or the result of one of k chains
abbrev pub IsKnown : ℕ → ℕ → Origin → Type 0
IsKnown n k (Given at) = at < n
IsKnown n k (Learned at) = at < k

-- What a chain may name has variables among the first v, and numbers of 32 bits.
pub record IsUsable (v : ℕ) (clauses : List (List Lit)) (chains : List Chain) : Type 0 where
  pub range : AreInRange v (numbered clauses chains)
  pub count : length clauses + length chains ≤ 2 ^ 32

-- a clause that can be the reason of a literal: it has that one, and not the opposite one
pub record IsReasonFor (c : List Lit) (l : Lit) : Type 0 where
  pub own : has c l ≡ true
  pub one_way : has c (opposite l) ≡ false
