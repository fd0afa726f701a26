-- Derivations: chains of resolution steps, each from clauses that have earlier numbers.
use Rattle.std.specs.Prelude.{◌≡◌, ◌-◌, ◌<◌, ℕ, All, Bool, IsTrue, length, option_map, List, [], ◌∷◌, ◌++◌, map, Option, Some, None, IsSomeAnd, slice_get, fold}
use Rattle.std.specs.List.{list_all}
use Rattle.std.specs.Option.{option_and_then}
use Rattle.clause_core.specs.declared.literal.Lit.{Lit}
use Rattle.clause_core.specs.Truth.{literal_true, all_true}
use Rattle.clause_derivation.specs.declared.chain.Chain.{Chain}
use Rattle.clause_derivation.specs.declared.chain.Resolve.{Resolve}
use Rattle.clause_derivation.specs.Resolution.{resolvent, IsSameSet}

-- One step: the clause that is left of the current one, by the clause that has the step's number.
-- Nothing is left where no clause has that number, or where it is no step.
abbrev pub next : List (List Lit) → Option (List Lit) → Resolve → Option (List Lit)
next numbered None s = None
next numbered (Some c) s = option_and_then (resolvent s.pivot c) (slice_get numbered s.with)

-- what the steps of a chain leave, in order, of the clause that has the number of its first
abbrev pub chain_end : List (List Lit) → Chain → Option (List Lit)
chain_end numbered ch = fold (next numbered) (slice_get numbered ch.first) ch.steps

-- A chain derives its result where its steps end in that set.
abbrev pub Derives : List (List Lit) → Chain → Type 0
Derives numbered ch = IsSomeAnd (chain_end numbered ch) (λ c. IsSameSet c ch.result)

-- Each chain derives its result. The numbers from 0 on name the clauses, then the results of the
-- chains in order, and a chain uses only earlier numbers.
abbrev pub IsDerivation : List (List Lit) → List Chain → Type 0
IsDerivation numbered [] = Unit {0}
IsDerivation numbered (ch ∷ chains) =
    Derives numbered ch × IsDerivation (numbered ++ ch.result ∷ []) chains

-- the clauses that chains are to derive
abbrev pub results : List Chain → List (List Lit)
results chains = map (λ ch. ch.result) chains

-- one single clause per unit, in order
abbrev pub singles : List Lit → List (List Lit)
singles units = map (λ l. l ∷ []) units

-- what the last chain is to derive, if there is one
abbrev pub last_result : List Chain → Option (List Lit)
last_result chains = option_map (λ ch. ch.result) (slice_get chains (length chains - 1))

-- the last chain is the empty clause
abbrev pub EndsEmpty : List Chain → Type 0
EndsEmpty chains = last_result chains ≡ Some []

-- each step of each chain is on one of the first n variables
abbrev pub ArePivotsInRange : ℕ → List Chain → Type 0
ArePivotsInRange n chains = All (λ ch. All (λ s. s.pivot < n) ch.steps) chains

-- an assignment satisfies the clauses of a formula, more clauses, and units
pub record HoldsUnder (a : List Bool) (cnf more : List (List Lit)) (units : List Lit) : Type 0 where
  pub formula_true : IsTrue (all_true a cnf)
  pub more_true : IsTrue (all_true a more)
  pub units_true : IsTrue (list_all (literal_true a) units)
