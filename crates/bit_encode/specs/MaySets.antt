-- Sets of values with edges, and what they say under a valuation of the edges.
use Rattle.std.specs.Prelude.{ℕ, Bool, ◌&&◌, ◌≡◌, int_lt, List, All}
use Rattle.std.specs.List.{list_any}
use Rattle.term_core.specs.Values.{arith}
use Rattle.circuit_core.specs.declared.edge.Edge.{Edge}
use Rattle.circuit_core.specs.Network.{Network, IsEdge}
use Rattle.circuit_core.specs.Value.{edge_value}
use Rattle.other_abstract.specs.declared.value.AbsValue.{AbsValue}
use Rattle.other_abstract.specs.declared.value.AbsValue.TheVariants.{Truth, Number}
use Rattle.other_abstract.specs.Windows.{number}
use Rattle.other_abstract.specs.Tests.{same_passes}
use Rattle.bit_encode.specs.declared.set.Possible.{Possible}
use Rattle.bit_encode.specs.declared.combine.PairOp.{PairOp}
use Rattle.bit_encode.specs.declared.combine.PairOp.TheVariants.{Same, Less, Arith}

-- A valuation agrees with a circuit and an assignment of its inputs: each edge of the circuit has the value that
-- the circuit gives it. Contracts speak of every such valuation, so that they name no circuit twice.
pub record Agrees (c : Network) (x : ℕ → Bool) (val : Edge → Bool) : Type 0 where
  pub at : (e : Edge) → IsEdge c e → val e ≡ edge_value c x e

-- each edge is one of the circuit
abbrev pub HasEdges : Network → List Possible → Type 0
HasEdges c s = All (λ (o : Possible). IsEdge c o.edge) s

-- whether a value that passes a test is possible: the edge of some such value is true
abbrev pub held : (Edge → Bool) → (AbsValue → Bool) → List Possible → Bool
held val p s = list_any (λ (o : Possible). p o.value && val o.edge) s

-- whether an operator may make of two values one that passes
abbrev pub pair_passes : PairOp → (AbsValue → Bool) → AbsValue → AbsValue → Bool
pair_passes Same p a b = same_passes p a b
pair_passes Less p a b = p (Truth (int_lt (number a) (number b)))
pair_passes (Arith op) p a b = p (Number (arith op (number a) (number b)))
