use Rattle.std.proofs.Common.{take}
use Rattle.bit_layout.specs.Coded.{may_start}
use Rattle.bit_gates.specs.Facts.{kept_legal}
use Rattle.bit_gates.proofs.ChoosingLemmas.{AnyPicked}
use Rattle.bit_gates.proofs.starts.any_start.Given as goal

abbrev pub invariant-loop-at : goal.invariant-loop-at
invariant-loop-at l = AnyPicked l.fn.circuit l.circuit (kept_legal l.machine) l.any (may_start l.machine) l.bits (take l.at l.choices)
