use Rattle.std.proofs.Common.{◌≡◌, ◌∙◌, ap, Some}
use Rattle.std.specs.Prelude.{slice_get}
use Rattle.term_core.specs.declared.machine.TermMachine.{TermMachine}
use Rattle.other_abstract.specs.Lists.{window_in}
use Rattle.other_abstract.specs.Machines.{window, fired_of}
use Rattle.other_abstract.specs.Places.{places}
use Rattle.bit_gates.proofs.StartLemmas.{at_index}
use Rattle.bit_gates.proofs.StepLemmas.{step_tells, sides_as}
use Rattle.bit_gates.proofs.steps.may_step.Goals as goal

pub returns-clause-holds : goal.returns-clause-holds
returns-clause-holds c =
    let there : slice_get c.args.machine.now.machine.rules c.args.choice.now.number ≡ Some c.index-as_slice-choice.result =
    at_index c.as_slice.result.now c.args.machine.now.machine.rules c.args.choice.now.number _ c.index-as_slice-choice.result (c.as_slice.ensures ∙ ap (λ (m : TermMachine). m.rules) c.machine.ensures) c.requires.rule c.index-as_slice-choice.is in
    step_tells c.firing_is_a_step.ensures.coded c.args.machine.now c.args.circuit.now c.fires.new.circuit c.both.new.circuit c.args.stage.now.kept.now c.args.stage.now.next.now c.args.wide.now c.args.opened c.args.choice.now c.index-as_slice-choice.result c.in_ok-fired.fired c.in_ok-e.e
    c.requires.kept c.requires.next c.requires.wide c.requires.opened c.fires.ensures.keeps there
    (sides_as c.fires.new.circuit c.scene.result.cells.now c.scene-2.result.cells.now c.scene-3.result.cells.now c.args.wide.now.cells.items c.args.stage.now.kept.now.cells.items c.args.stage.now.next.now.cells.items c.in_ok-fired.fired
    (window_in c.scene.result.window) (window_in c.scene-2.result.window) (window_in c.scene-3.result.window) (window c.args.machine.now (fired_of c.args.choice.now.pattern)) (window c.args.machine.now 0) (window c.args.machine.now 0) c.args.machine.now.formulas c.index-as_slice-choice.result c.as_slice-pattern.result.now c.args.choice.now.pattern c.args.places.now (places (window c.args.machine.now 0))
    c.scene.ensures.cells c.scene-2.ensures.cells c.scene-3.ensures.cells (c.scene.ensures.window ∙ ap (window c.args.machine.now) c.requires.wide.number) (c.scene-2.ensures.window ∙ ap (window c.args.machine.now) c.requires.kept.number) (c.scene-3.ensures.window ∙ ap (window c.args.machine.now) c.requires.next.number)
    c.as_slice-pattern.ensures c.requires.places c.in_ok-fired.ensures.tells)
    c.both.ensures.keeps c.in_ok-e.ensures.value
