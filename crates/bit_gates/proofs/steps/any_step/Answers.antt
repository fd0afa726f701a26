use Rattle.std.proofs.Common.{◌∙◌, length, ap}
use Rattle.other_abstract.specs.Machines.{fired_of}
use Rattle.bit_layout.specs.Coded.{may_step}
use Rattle.bit_gates.specs.Facts.{both_legal}
use Rattle.bit_gates.proofs.ChoosingLemmas.{picked_more}
use Rattle.bit_gates.proofs.StepLemmas.{choice_opened, within_at}
use Rattle.bit_gates.proofs.steps.any_step.Goals as goal

pub may_step-requires-clause-opened : goal.may_step-requires-clause-opened
may_step-requires-clause-opened c =
    choice_opened c.args.machine.now c.args.circuit.now c.loop-at.circuit c.args.stage.now.opened.now c.args.stage.now.windows.now c.args.stage.now.kept.now.cells.items _ _ c.fired_of-fired.result (fired_of c.index-choices-at.result.pattern) (length c.args.stage.now.windows.now)
    c.requires.opened c.loop-at.invariant.keeps (c.fired_of-fired.ensures ∙ ap fired_of c.as_slice.ensures)
    (within_at (length c.args.machine.now.machine.rules) (length c.args.stage.now.windows.now) c.args.choices.now c.loop-at.at _ c.index-choices-at.result c.requires.within c.loop-at-test.true c.index-choices-at.is)

pub loop-at-preserved : goal.loop-at-preserved
loop-at-preserved c =
    picked_more _ c.loop-at.circuit c.may_step.new.circuit c.with_choice.new.circuit (both_legal c.args.machine.now) _ _ _ (may_step c.args.machine.now) c.args.bits.now c.args.choices.now c.loop-at.at _ c.index-choices-at.result c.loop-at-test.true c.index-choices-at.is c.loop-at.invariant
    c.may_step.ensures.keeps c.in_ok-one.ensures.holds c.with_choice.ensures.keeps c.in_ok-any.ensures.edge c.in_ok-any.ensures.value
