use Rattle.std.proofs.Common.{◌≡◌, ℕ, Bool, map, take}
use Rattle.circuit_core.specs.declared.edge.Edge.{Edge}
use Rattle.other_abstract.specs.declared.value.AbsValue.{AbsValue}
use Rattle.circuit_core.specs.Growth.{KeepsEdges}
use Rattle.bit_encode.specs.MaySets.{Agrees, HasEdges, held}
use Rattle.bit_encode.specs.Codes.{number_of, picked}
use Rattle.bit_encode.proofs.code.coded.Given as goal

abbrev pub invariant-loop-place : goal.invariant-loop-place
invariant-loop-place l = record {
  inputs : l.circuit.inputs ≡ l.fn.circuit.inputs;
  keeps : KeepsEdges l.fn.circuit l.circuit;
  edges : HasEdges l.circuit l.out;
  value : (x : ℕ → Bool) (val : Edge → Bool) (p : AbsValue → Bool) → Agrees l.circuit x val → held val p l.out ≡ picked p (take l.place l.values) (number_of (map val l.bits));
}
