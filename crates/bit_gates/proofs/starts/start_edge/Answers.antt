use Rattle.bit_encode.specs.Codes.{width}
use Rattle.std.proofs.Common.{length}
use Rattle.bit_layout.specs.Layout.{start_choice_place}
use Rattle.bit_gates.proofs.Growing.{keeps_all}
use Rattle.bit_gates.proofs.WindowLemmas.{are_bits_after}
use Rattle.bit_gates.proofs.StartLemmas.{start_told, legal_told}
use Rattle.bit_gates.proofs.starts.start_edge.Goals as goal

pub returns-clause-holds : goal.returns-clause-holds
returns-clause-holds c =
    start_told c.args.machine.now c.args.circuit.now _ _ _ _ _ _ c.args.bits.now c.args.choices.now c.in_ok-legal.legal c.in_ok-starts.starts c.in_ok-is_bad.is_bad c.args.bad c.in_ok-told.told c.in_ok-inner.inner c.in_ok-e.e
    (legal_told c.codes_show_states.ensures.legal c.args.machine.now c.args.circuit.now _ c.args.kept.now c.as_slice.result.now 0 0 c.in_ok-legal.legal c.requires.kept c.legal.ensures.keeps c.as_slice.ensures.value c.in_ok-legal.ensures.value) c.legal.ensures.keeps
    c.in_ok-starts.ensures.holds c.any_start.ensures.keeps
    c.in_ok-is_bad.ensures.holds c.start_is_bad.ensures.keeps
    c.requires.bad c.requires.bits c.requires.choices
    c.in_ok-told.ensures.value c.same.ensures.keeps
    c.in_ok-inner.ensures.value c.both.ensures.keeps
    c.in_ok-e.ensures.value c.both-2.ensures.keeps

pub start_is_bad-requires-clause-bits : goal.start_is_bad-requires-clause-bits
start_is_bad-requires-clause-bits c =
    are_bits_after c.args.circuit.now c.any_start.new.circuit c.args.bits.now (start_choice_place c.args.machine.now) (width (length c.args.choices.now)) (keeps_all _ _ _ c.legal.ensures.keeps c.any_start.ensures.keeps) c.requires.bits
