use Rattle.std.proofs.Common.{◌∙◌}
use Rattle.bit_layout.proofs.ChoiceLemmas.{choice_more}
use Rattle.bit_layout.proofs.choice.add_choices.Goals as goal

pub loop-pattern-preserved : goal.loop-pattern-preserved
loop-pattern-preserved c =
    choice_more c.args.number c.args.patterns.now c.loop-pattern.pattern-index _ c.pattern-item.result _ _ _ _ c.loop-pattern-test.true c.pattern-item.is (c.from_vec.ensures ∙ c.in_ok-nodes.ensures.items ∙ c.nodes.ensures) c.loop-pattern.invariant c.in_ok-push.ensures.items
