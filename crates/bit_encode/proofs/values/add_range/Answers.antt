use mir.Syntax.{w16}
use Rattle.std.proofs.Common.{◌≡◌, ◌∙◌, to_z, of_z, arith}
use Rattle.std.proofs.lemmas.Grind.{common_steps}
use Rattle.bit_encode.proofs.ValueLemmas.{numbers_more, range_whole, range_back}
use Rattle.bit_encode.proofs.values.add_range.Goals as goal

pub loop-step-preserved : goal.loop-step-preserved
loop-step-preserved c =
    let e : to_z w16 (of_z w16 c.number_at.result) ≡ c.number_at.result = grind (arith, common_steps) in
    (c.loop-step.invariant.0, numbers_more _ _ c.loop-step.step c.range_count-count.result _ _ _ c.loop-step-test.true (e ∙ c.number_at.ensures) c.in_ok-push.ensures.items c.loop-step.invariant.1)

pub returns : goal.returns
returns c =
    let l : to_z w16 (of_z w16 c.args.low) ≡ c.args.low = grind (arith, common_steps) in
    let h : to_z w16 (of_z w16 c.args.high) ≡ c.args.high = grind (arith, common_steps) in
    range_back c.args.low _ c.args.high _ _ _ l h (range_whole _ _ c.loop-step.step _ _ _ c.loop-step-test.false c.loop-step.invariant.0 c.loop-step.invariant.1)
