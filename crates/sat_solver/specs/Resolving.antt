-- The resolution steps of one conflict, taken on marks.
use Rattle.std.specs.Prelude.{ℕ, List, Bool, IsSomeAnd, fold, slice_get}
use Rattle.clause_core.specs.declared.literal.Lit.{Lit}
use Rattle.clause_derivation.specs.declared.chain.Resolve.{Resolve}
use Rattle.clause_derivation.specs.Derivation.{next}
use Rattle.clause_derivation.specs.Marking.{AreMarks}
use Rattle.clause_derivation.specs.Resolution.{resolvent}

-- The marks of a clause become those of its resolvent with d on the variable v. It is a step of
-- whatever clause has the marks.
abbrev pub IsStep : List Bool → List Bool → ℕ → List Lit → Type 0
IsStep old new v d = (c : List Lit) → AreMarks old c → IsSomeAnd (resolvent v c d) (AreMarks new)

-- the steps so far, from the clause of a number, end in the marked clause
abbrev pub Reaches : List (List Lit) → ℕ → List Resolve → List Bool → Type 0
Reaches clauses first steps marked =
    IsSomeAnd (fold (next clauses) (slice_get clauses first) steps) (AreMarks marked)
