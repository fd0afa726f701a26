use Rattle.std.proofs.Common.{◌||◌, ◌∙◌, ap}
use Rattle.bit_encode.specs.MaySets.{held, pair_passes}
use Rattle.bit_encode.proofs.Gaining.{gains_more, gains_all, under_all}
use Rattle.bit_encode.proofs.combine.pair_with.Goals as goal

pub loop-right-preserved : goal.loop-right-preserved
loop-right-preserved c = gains_more _ _ _ _ _ _ _ _ _ _ c.loop-right-test.true c.loop-right.invariant c.pair.ensures.keeps c.in_ok-pair.ensures.edges c.in_ok-pair.ensures.value

pub returns-clause-value : goal.returns-clause-value
returns-clause-value c = λ x val p a. (gains_all _ _ _ _ _ _ _ c.loop-right-test.false c.loop-right.invariant).value x val p a ∙ ap (λ b. held val p c.args.out.now || b) (under_all val (pair_passes c.args.op p c.args.left.value) (val c.args.left.edge) c.args.rights.now)
