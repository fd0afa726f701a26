use Rattle.std.proofs.Common.{take}
use Rattle.bit_layout.specs.Coded.{may_step}
use Rattle.bit_gates.specs.Facts.{both_legal}
use Rattle.bit_gates.proofs.ChoosingLemmas.{AnyPicked}
use Rattle.bit_gates.proofs.steps.any_step.Given as goal

abbrev pub invariant-loop-at : goal.invariant-loop-at
invariant-loop-at l = AnyPicked l.fn.circuit l.circuit (both_legal l.machine) l.any (may_step l.machine) l.bits (take l.at l.choices)
