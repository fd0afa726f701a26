-- What a formula says of a circuit.
use Rattle.std.specs.Prelude.{◌≡◌, ℕ, ◌<◌, ◌≤◌, Bool, true, List, length}
use Rattle.clause_core.specs.declared.literal.Lit.{Lit}
use Rattle.clause_core.specs.Literal.{variable_of}
use Rattle.clause_core.specs.Truth.{value_of, literal_true, all_true}
use Rattle.clause_core.specs.Formula.{AreInRange}
use Rattle.circuit_core.specs.Network.{Network}
use Rattle.circuit_core.specs.Value.{node_value, SameBelow}
use Rattle.cnf_emit.specs.Reach.{is_marked}
use Rattle.cnf_emit.specs.Drafts.{Sketch, node_lit}

-- Some assignment of n variables satisfies the clauses and has the given values of the inputs.
abbrev pub Extends : ℕ → List (List Lit) → ℕ → (ℕ → Bool) → Type 0
Extends n cs inputs x =
    (a : List Bool) × (length a ≡ n) × SameBelow inputs x (value_of a) × (all_true a cs ≡ true)

-- Two assignments that satisfy the clauses and agree on the inputs are the same on n variables.
abbrev pub IsUnique : ℕ → List (List Lit) → ℕ → Type 0
IsUnique n cs inputs =
    (a b : List Bool) → all_true a cs ≡ true → all_true b cs ≡ true
    → SameBelow inputs (value_of a) (value_of b) → SameBelow n (value_of a) (value_of b)

-- What has been emitted of a circuit, for as many nodes as have literals: the clauses leave the inputs
-- free, and give each other variable one value. A marked node's literal has the node's value.
pub record Encodes (c : Network) (marks : List Bool) (s : Sketch) : Type 0 where
  pub inputs : c.inputs ≤ s.variables
  pub range : AreInRange s.variables s.clauses
  pub extends : (x : ℕ → Bool) → Extends s.variables s.clauses c.inputs x
  pub unique : IsUnique s.variables s.clauses c.inputs
  pub placed : (n : ℕ) → n < length s.lits → is_marked marks n ≡ true → variable_of (node_lit s.lits n) < s.variables
  pub values : (a : List Bool) → all_true a s.clauses ≡ true → (n : ℕ) → n < length s.lits →
      is_marked marks n ≡ true → literal_true a (node_lit s.lits n) ≡ node_value c (value_of a) n
