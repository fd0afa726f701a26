use Rattle.std.proofs.Common.{◌≡◌, ◌∙◌, ap, Some}
use Rattle.std.specs.Prelude.{slice_get}
use Rattle.term_core.specs.declared.machine.TermMachine.{TermMachine}
use Rattle.other_abstract.specs.Lists.{window_in}
use Rattle.other_abstract.specs.Machines.{window, fired_of}
use Rattle.bit_gates.proofs.StartLemmas.{start_tells, at_index}
use Rattle.bit_gates.proofs.starts.may_start.Goals as goal

pub returns-clause-holds : goal.returns-clause-holds
returns-clause-holds c =
    let there : slice_get c.args.machine.now.machine.starts c.args.choice.now.number ≡ Some c.index-as_slice-choice.result =
    at_index c.as_slice.result.now c.args.machine.now.machine.starts c.args.choice.now.number _ c.index-as_slice-choice.result (c.as_slice.ensures ∙ ap (λ (m : TermMachine). m.starts) c.machine.ensures) c.requires.start c.index-as_slice-choice.is in
    start_tells c.codes_show_states.ensures.shows c.args.machine.now c.args.circuit.now _ c.args.kept.now c.scene-kept.result.cells.now (window_in c.scene-kept.result.window) c.fired_of-fired.result c.as_slice-2.result.now c.as_slice-pattern.result.now c.args.places.now c.args.choice.now c.index-as_slice-choice.result c.in_ok-e.e
    c.requires.kept c.all_begin.ensures.keeps c.scene-kept.ensures.cells (c.scene-kept.ensures.window ∙ ap (window c.args.machine.now) c.requires.kept.number) (c.fired_of-fired.ensures ∙ ap fired_of c.as_slice-pattern.ensures) c.as_slice-2.ensures c.as_slice-pattern.ensures c.requires.places there c.in_ok-e.ensures.tells
