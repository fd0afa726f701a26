use Rattle.std.proofs.Common.{◌≡◌, ◌+◌, ℕ, Bool, map}
use Rattle.std.specs.Prelude.{All}
use Rattle.circuit_core.specs.declared.edge.Edge.{Edge}
use Rattle.circuit_core.specs.Network.{IsEdge}
use Rattle.circuit_core.specs.Growth.{KeepsEdges}
use Rattle.bit_encode.specs.MaySets.{Agrees}
use Rattle.bit_encode.specs.Codes.{bits_at}
use Rattle.bit_encode.proofs.code.inputs.Given as goal

abbrev pub invariant-loop-made : goal.invariant-loop-made
invariant-loop-made l = record {
  keeps : KeepsEdges l.fn.circuit l.circuit;
  inputs : l.circuit.inputs ≡ l.fn.circuit.inputs + l.made;
  edges : All (IsEdge l.circuit) l.bits.items;
  value : (x : ℕ → Bool) (val : Edge → Bool) → Agrees l.circuit x val → map val l.bits.items ≡ bits_at x l.fn.circuit.inputs l.made;
}
