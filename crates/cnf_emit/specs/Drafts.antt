-- What has been emitted: how many variables there are, the clauses, and the literal of each node so
-- far. The clauses of a gate are those of Tseitin.
use Rattle.std.specs.Prelude.{ℕ, ◌+◌, Bool, true, false, List, [], ◌∷◌, ◌++◌, if◌then◌else◌}
use Rattle.std.specs.List.{slice_index_or}
use Rattle.clause_core.specs.declared.literal.Lit.{Lit}
use Rattle.clause_core.specs.Literal.{positive, negative, opposite}
use Rattle.circuit_core.specs.declared.edge.Edge.{Edge}
use Rattle.circuit_core.specs.declared.edge.Gate.{Gate}
use Rattle.circuit_core.specs.declared.edge.Gate.TheVariants.{Input, And}
use Rattle.circuit_core.specs.Edges.{node_of, is_negated}

pub record Sketch : Type 0 where
  pub variables : ℕ
  pub clauses : List (List Lit)
  pub lits : List Lit

-- the literal of a node, and of an edge
abbrev pub node_lit : List Lit → ℕ → Lit
node_lit lits n = slice_index_or lits n (positive 0)

abbrev pub edge_lit : List Lit → Edge → Lit
edge_lit lits e = if is_negated e then opposite (node_lit lits (node_of e)) else node_lit lits (node_of e)

-- one more node has this variable
abbrev pub with_node : Sketch → ℕ → Sketch
with_node s v = record { variables = s.variables; clauses = s.clauses; lits = s.lits ++ positive v ∷ [] }

-- one more variable, with clauses that define it
abbrev pub with_variable : Sketch → List (List Lit) → Sketch
with_variable s cs = record { variables = s.variables + 1; clauses = s.clauses ++ cs; lits = s.lits }

-- the variable v is false
abbrev pub false_clauses : ℕ → List (List Lit)
false_clauses v = (negative v ∷ []) ∷ []

-- the variable v is the conjunction of two literals
abbrev pub and_clauses : ℕ → Lit → Lit → List (List Lit)
and_clauses v l m =
    (negative v ∷ l ∷ []) ∷ (negative v ∷ m ∷ []) ∷ (positive v ∷ opposite l ∷ opposite m ∷ []) ∷ []

-- one more node that has a new variable
abbrev pub with_defined : Sketch → List (List Lit) → Sketch
with_defined s cs = with_node (with_variable s cs) s.variables

-- The constant, where it is needed. A node that is not has some variable.
abbrev pub with_constant : Sketch → Bool → Sketch
with_constant s true = with_defined s (false_clauses s.variables)
with_constant s false = with_node s 0

-- One more gate, where it is needed: an input has its own variable, and a conjunction a new one.
abbrev pub with_gate : Sketch → Bool → Gate → Sketch
with_gate s false g = with_node s 0
with_gate s true (Input k) = with_node s k
with_gate s true (And a b) = with_defined s (and_clauses s.variables (edge_lit s.lits a) (edge_lit s.lits b))
