use Rattle.std.proofs.Common.{◌||◌, ◌∙◌, ap}
use Rattle.bit_encode.specs.MaySets.{held}
use Rattle.bit_encode.proofs.Gaining.{gains_more, gains_all, under_values}
use Rattle.bit_encode.proofs.combine.add_values.Goals as goal

pub loop-value-preserved : goal.loop-value-preserved
loop-value-preserved c = gains_more _ _ _ _ _ _ _ _ _ _ c.loop-value-test.true c.loop-value.invariant c.add.ensures.keeps c.in_ok-add.ensures.edges c.in_ok-add.ensures.value

pub returns-clause-value : goal.returns-clause-value
returns-clause-value c = λ x val p a. (gains_all _ _ _ _ _ _ _ c.loop-value-test.false c.loop-value.invariant).value x val p a ∙ ap (λ b. held val p c.args.out.now || b) (under_values p (val c.args.under) c.args.values.now)
