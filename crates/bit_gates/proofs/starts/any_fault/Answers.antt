use Rattle.std.proofs.Common.{true}
use Rattle.bit_layout.specs.Coded.{may_fault_at}
use Rattle.bit_gates.proofs.Growing.{keeps_self}
use Rattle.bit_gates.proofs.ChoosingLemmas.{picked_more}
use Rattle.bit_gates.proofs.StartLemmas.{truth_where}
use Rattle.bit_gates.proofs.starts.any_fault.Goals as goal

pub loop-at-preserved : goal.loop-at-preserved
loop-at-preserved c =
    picked_more _ c.loop-at.circuit c.loop-at.circuit _ (λ x. true) c.loop-at.any c.truth.result c.in_ok-any.any (λ x. may_fault_at c.args.machine.now) c.args.bits.now c.args.choices.now c.loop-at.at _ c.index-choices-at.result c.loop-at-test.true c.index-choices-at.is c.loop-at.invariant
    (keeps_self c.loop-at.circuit) (truth_where c.loop-at.circuit (λ x. true) c.truth.result c.in_ok-faults.faults (may_fault_at c.args.machine.now c.index-choices-at.result) (c.truth.ensures.edge c.loop-at.circuit) (c.truth.ensures.value c.loop-at.circuit) c.in_ok-faults.ensures)
    c.with_choice.ensures.keeps c.in_ok-any.ensures.edge c.in_ok-any.ensures.value
