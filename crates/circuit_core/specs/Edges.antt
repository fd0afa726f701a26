-- What an edge names: a node, and whether it is negated.
use Rattle.std.specs.Prelude.{◌==◌, ℕ, ◌*◌, ◌/◌, ◌%◌, Bool}
use Rattle.circuit_core.specs.declared.edge.Edge.{Edge}

-- the code is twice the node, plus one where the edge is negated
abbrev pub node_of : Edge → ℕ
node_of e = e.code / 2

abbrev pub is_negated : Edge → Bool
is_negated e = e.code % 2 == 1

-- the edge of a node that is not negated
abbrev pub edge_of : ℕ → Edge
edge_of n = record { code = 2 * n }
