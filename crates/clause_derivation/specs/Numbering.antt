-- The clauses that have a number, in the order of their numbers.
use Rattle.std.specs.Prelude.{◌++◌, ℕ, List, [], slice_get, unwrap_or}
use Rattle.std.specs.List.{flat_map}
use Rattle.clause_core.specs.declared.literal.Lit.{Lit}
use Rattle.clause_derivation.specs.declared.chain.Chain.{Chain}
use Rattle.clause_derivation.specs.declared.numbering.Numbered.{Numbered}
use Rattle.clause_derivation.specs.Derivation.{results, singles}

-- what is numbered before the first chain: the clauses of a formula, more clauses, and one for each
-- unit
abbrev pub base_of : Numbered → List (List Lit)
base_of n = n.cnf.now ++ n.more.now ++ singles n.units.now

-- all that is numbered: the results of the earlier chains too
abbrev pub clauses_of : Numbered → List (List Lit)
clauses_of n = base_of n ++ results n.chains.now

-- the literals of the clause that has a number, and none where no clause has it
abbrev pub named : List (List Lit) → ℕ → List Lit
named clauses n = unwrap_or (slice_get clauses n) []

-- the literals of all clauses that a chain names
abbrev pub touched : List (List Lit) → Chain → List Lit
touched clauses ch = named clauses ch.first ++ flat_map (λ s. named clauses s.with) ch.steps
