use Rattle.std.proofs.Common.{◌||◌, ◌∙◌, ap}
use Rattle.bit_encode.specs.MaySets.{held}
use Rattle.bit_encode.proofs.Gaining.{gains_more, gains_all, under_all}
use Rattle.bit_encode.proofs.combine.add_all.Goals as goal

pub loop-one-preserved : goal.loop-one-preserved
loop-one-preserved c = gains_more _ _ _ _ _ _ _ _ _ _ c.loop-one-test.true c.loop-one.invariant c.add_under.ensures.keeps c.in_ok-add_under.ensures.edges c.in_ok-add_under.ensures.value

pub returns-clause-value : goal.returns-clause-value
returns-clause-value c = λ x val p a. (gains_all _ _ _ _ _ _ _ c.loop-one-test.false c.loop-one.invariant).value x val p a ∙ ap (λ b. held val p c.args.out.now || b) (under_all val p (val c.args.under) c.args.more.now)
