use Rattle.std.proofs.Common.{◌∙◌, ◌&&◌, ap}
use Rattle.bit_encode.proofs.Growing.{keeps_all, agrees_before}
use Rattle.bit_encode.proofs.CodeLemmas.{bit_step, bits_done}
use Rattle.bit_encode.proofs.code.is_number.Goals as goal

pub loop-bit-preserved : goal.loop-bit-preserved
loop-bit-preserved c = record {
  inputs = c.with_bit.ensures.inputs ∙ c.loop-bit.invariant.inputs;
  keeps = keeps_all _ _ _ c.loop-bit.invariant.keeps c.with_bit.ensures.keeps;
  edge = c.in_ok-e.ensures.edge;
  value = λ x val a. bit_step val _ _ _ _ _ _ c.loop-bit-test.true (c.in_ok-e.ensures.value x val a) ∙ c.loop-bit.invariant.value x val (agrees_before _ _ x val c.with_bit.ensures.keeps a);
}

pub returns-clause-value : goal.returns-clause-value
returns-clause-value c = λ x val a.
    bits_done val c.loop-bit.e c.in_ok-e-2.e c.args.bits.now c.loop-bit.bit-index c.loop-bit.rest c.loop-bit-test.false
    (c.in_ok-e-2.ensures.value x val a ∙ ap (λ b. val c.loop-bit.e && b) (a.at _ (c.truth.ensures.edge c.both.new.circuit) ∙ c.truth.ensures.value c.both.new.circuit x))
    ∙ c.loop-bit.invariant.value x val (agrees_before _ _ x val c.both.ensures.keeps a)
