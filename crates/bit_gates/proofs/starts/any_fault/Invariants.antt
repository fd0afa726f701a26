use Rattle.std.proofs.Common.{true, take}
use Rattle.bit_layout.specs.Coded.{may_fault_at}
use Rattle.bit_gates.proofs.ChoosingLemmas.{AnyPicked}
use Rattle.bit_gates.proofs.starts.any_fault.Given as goal

abbrev pub invariant-loop-at : goal.invariant-loop-at
invariant-loop-at l = AnyPicked l.fn.circuit l.circuit (λ x. true) l.any (λ x. may_fault_at l.machine) l.bits (take l.at l.choices)
