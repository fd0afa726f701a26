use Rattle.std.proofs.Common.{◌≡◌, ◌&&◌, ℕ, Bool, map, drop}
use Rattle.circuit_core.specs.declared.edge.Edge.{Edge}
use Rattle.circuit_core.specs.Network.{IsEdge}
use Rattle.circuit_core.specs.Growth.{KeepsEdges}
use Rattle.bit_encode.specs.MaySets.{Agrees}
use Rattle.bit_encode.specs.Codes.{matches}
use Rattle.bit_encode.proofs.code.is_number.Given as goal

abbrev pub invariant-loop-bit : goal.invariant-loop-bit
invariant-loop-bit l = record {
  inputs : l.circuit.inputs ≡ l.fn.circuit.inputs;
  keeps : KeepsEdges l.fn.circuit l.circuit;
  edge : IsEdge l.circuit l.e;
  value : (x : ℕ → Bool) (val : Edge → Bool) → Agrees l.circuit x val → (val l.e && matches l.rest (map val (drop l.bit-index l.bits))) ≡ matches l.number (map val l.bits);
}
