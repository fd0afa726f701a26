use Rattle.std.proofs.Common.{◌≡◌}
use Rattle.circuit_core.specs.Growth.{KeepsEdges}
use Rattle.bit_layout.specs.Layout.{window_place}
use Rattle.bit_gates.specs.Inputs.{AreWindows}
use Rattle.bit_gates.proofs.window.coded_all.Given as goal

abbrev pub invariant-loop-fired : goal.invariant-loop-fired
invariant-loop-fired l = record {
  keeps : KeepsEdges l.fn.circuit l.circuit;
  place : l.circuit.inputs ≡ window_place l.machine l.fired;
  windows : AreWindows l.machine l.circuit l.out.items l.fired;
}
