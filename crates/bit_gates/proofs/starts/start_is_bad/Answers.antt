use Rattle.std.proofs.Common.{◌∙◌, ap}
use Rattle.other_abstract.specs.Machines.{window}
use Rattle.other_abstract.specs.Lists.{window_in}
use Rattle.bit_gates.proofs.StartLemmas.{bad_tells, violates_tells}
use Rattle.bit_gates.proofs.starts.start_is_bad.Goals as goal

pub returns-clause-holds : goal.returns-clause-holds
returns-clause-holds c =
    bad_tells c.args.machine.now c.args.circuit.now _ _ _ c.args.bits.now c.args.choices.now c.in_ok-violates.violates c.in_ok-faults.faults c.in_ok-e.e
    (violates_tells c.codes_show_states.ensures.shows c.args.machine.now c.args.circuit.now _ c.args.kept.now 0 c.scene-state.result.cells.now (window_in c.scene-state.result.window) c.formulas.result.now c.in_ok-violates.violates
    c.requires.kept c.some_may_fail.ensures.keeps c.scene-state.ensures.cells (c.scene-state.ensures.window ∙ ap (window c.args.machine.now) c.requires.kept.number) c.formulas.ensures c.in_ok-violates.ensures.tells)
    c.any_fault.ensures.keeps c.in_ok-faults.ensures.holds c.either.ensures.keeps c.requires.bits c.some_may_fail.ensures.keeps c.requires.choices c.in_ok-e.ensures.value
