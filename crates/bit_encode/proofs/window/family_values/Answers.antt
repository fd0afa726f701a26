use Rattle.other_abstract.specs.Lists.{window_in}
use Rattle.std.proofs.Common.{◌∙◌}
use Rattle.bit_encode.specs.Codes.{cell_values}
use Rattle.bit_encode.proofs.WindowLemmas.{values_more}
use Rattle.bit_encode.proofs.window.family_values.Goals as goal

pub loop-family-preserved : goal.loop-family-preserved
loop-family-preserved c = values_more (cell_values (window_in c.args.scene.now)) c.args.scene.now.families.now c.loop-family.family-index _ c.family-item.result _ _ _ c.loop-family-test.true c.family-item.is (c.from_vec.ensures ∙ c.in_ok-values.ensures) c.loop-family.invariant c.in_ok-push.ensures.items
