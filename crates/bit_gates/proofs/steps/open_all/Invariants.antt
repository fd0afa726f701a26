use Rattle.circuit_core.specs.Growth.{KeepsEdges}
use Rattle.bit_gates.specs.Inputs.{AreOpened}
use Rattle.bit_gates.proofs.steps.open_all.Given as goal

abbrev pub invariant-loop-at : goal.invariant-loop-at
invariant-loop-at l = record {
  keeps : KeepsEdges l.fn.circuit l.circuit;
  opened : AreOpened l.machine l.circuit l.out.items l.windows l.kept.cells.items l.at;
}
