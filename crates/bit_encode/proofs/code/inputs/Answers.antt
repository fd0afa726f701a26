use Rattle.std.proofs.Common.{◌∙◌, arith}
use Rattle.std.proofs.lemmas.Grind.{common_steps}
use Rattle.bit_encode.proofs.Growing.{keeps_all, agrees_before, growing}
use Rattle.bit_encode.proofs.CodeLemmas.{inputs_step}
use Rattle.bit_encode.proofs.code.inputs.Goals as goal

pub loop-made-preserved : goal.loop-made-preserved
loop-made-preserved c = record {
  keeps = keeps_all _ _ _ c.loop-made.invariant.keeps c.input.ensures.keeps;
  inputs = omega (arith, c.in_ok-bit.ensures.inputs, c.loop-made.invariant.inputs);
  edges = grind (arith, common_steps, growing);
  value = λ x val a. inputs_step x val _ _ _ _ _ _ c.in_ok-push.ensures.items (c.loop-made.invariant.value x val (agrees_before _ _ x val c.input.ensures.keeps a)) (a.at _ c.in_ok-bit.ensures.edge ∙ c.in_ok-bit.ensures.value x) c.loop-made.invariant.inputs;
}
