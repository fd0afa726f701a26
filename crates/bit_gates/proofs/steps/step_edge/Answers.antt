use Rattle.std.proofs.Common.{length}
use Rattle.bit_layout.specs.Layout.{next_place}
use Rattle.bit_gates.proofs.Growing.{keeps_all}
use Rattle.bit_gates.proofs.WindowLemmas.{window_after, all_opened_after, fact_after}
use Rattle.bit_gates.proofs.StartLemmas.{legal_told}
use Rattle.bit_gates.proofs.StepLemmas.{step_told}
use Rattle.bit_gates.proofs.steps.step_edge.Goals as goal

pub returns-clause-holds : goal.returns-clause-holds
returns-clause-holds c =
    step_told c.args.machine.now c.args.circuit.now _ _ _ _ _ _ _ _ _ c.args.bits.now c.args.choices.now c.in_ok-before.before c.in_ok-after.after c.in_ok-steps.steps c.in_ok-now.now c.in_ok-next.next c.in_ok-tells.tells c.in_ok-rest.rest c.in_ok-legal.legal c.in_ok-e.e
    (legal_told c.codes_show_states.ensures.legal c.args.machine.now c.args.circuit.now _ c.args.stage.now.kept.now c.as_slice.result.now 0 0 c.in_ok-before.before c.requires.kept c.legal.ensures.keeps c.as_slice.ensures.value c.in_ok-before.ensures.value) c.legal.ensures.keeps
    (legal_told c.codes_show_states.ensures.legal c.args.machine.now c.args.circuit.now _ c.args.stage.now.next.now c.as_slice-2.result.now 0 (next_place c.args.machine.now) c.in_ok-after.after c.requires.next (keeps_all _ _ _ c.legal.ensures.keeps c.legal-2.ensures.keeps) c.as_slice-2.ensures.value c.in_ok-after.ensures.value) c.legal-2.ensures.keeps
    c.in_ok-steps.ensures.holds c.any_step.ensures.keeps c.requires.bits c.requires.choices
    c.in_ok-now.ensures.holds c.told.ensures.keeps c.in_ok-next.ensures.holds c.told_next.ensures.keeps
    c.in_ok-tells.ensures.value c.both.ensures.keeps c.in_ok-rest.ensures.value c.both-2.ensures.keeps c.in_ok-legal.ensures.value c.both-3.ensures.keeps c.in_ok-e.ensures.value c.both-4.ensures.keeps

pub any_step-requires-clause-opened : goal.any_step-requires-clause-opened
any_step-requires-clause-opened c =
    all_opened_after c.args.machine.now c.args.circuit.now c.legal-2.new.circuit c.args.stage.now.opened.now c.args.stage.now.windows.now c.args.stage.now.kept.now.cells.items (length c.args.stage.now.windows.now) (keeps_all _ _ _ c.legal.ensures.keeps c.legal-2.ensures.keeps) c.requires.opened

pub told_next-requires-clause-kept : goal.told_next-requires-clause-kept
told_next-requires-clause-kept c = window_after c.args.machine.now c.args.circuit.now c.told.new.circuit c.args.stage.now.next.now 0 (next_place c.args.machine.now) (keeps_all _ _ _ (keeps_all _ _ _ c.legal.ensures.keeps c.legal-2.ensures.keeps) (keeps_all _ _ _ c.any_step.ensures.keeps c.told.ensures.keeps)) c.requires.next

pub told_next-requires-clause-bit : goal.told_next-requires-clause-bit
told_next-requires-clause-bit c = fact_after c.args.circuit.now c.told.new.circuit c.args.bad.next _ (keeps_all _ _ _ (keeps_all _ _ _ c.legal.ensures.keeps c.legal-2.ensures.keeps) (keeps_all _ _ _ c.any_step.ensures.keeps c.told.ensures.keeps)) c.requires.bad_next
