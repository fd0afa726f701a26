use Rattle.std.proofs.Common.{◌∙◌, ap}
use Rattle.other_abstract.specs.Machines.{window}
use Rattle.other_abstract.specs.Lists.{window_in}
use Rattle.bit_layout.specs.Layout.{bad_place}
use Rattle.bit_gates.proofs.StartLemmas.{violates_tells}
use Rattle.bit_gates.proofs.StepLemmas.{told_where, legal_before}
use Rattle.bit_gates.proofs.steps.told.Goals as goal

pub returns-clause-holds : goal.returns-clause-holds
returns-clause-holds c =
    told_where c.args.machine.now c.args.circuit.now _ _ 0 (bad_place c.args.machine.now) c.args.bit c.in_ok-violates.violates c.in_ok-e.e
    c.requires.bit c.some_may_fail.ensures.keeps
    (violates_tells c.codes_show_states.ensures.shows c.args.machine.now c.args.circuit.now _ c.args.kept.now 0 c.scene-state.result.cells.now (window_in c.scene-state.result.window) c.formulas.result.now c.in_ok-violates.violates
    c.requires.kept c.some_may_fail.ensures.keeps c.scene-state.ensures.cells (c.scene-state.ensures.window ∙ ap (window c.args.machine.now) c.requires.kept.number) c.formulas.ensures c.in_ok-violates.ensures.tells)
    c.same.ensures.keeps c.in_ok-e.ensures.value (legal_before c.args.machine.now)
