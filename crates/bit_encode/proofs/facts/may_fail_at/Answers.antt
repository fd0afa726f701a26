use Rattle.std.proofs.Common.{false, ◌++◌, ◌∙◌}
use Rattle.other_abstract.specs.Tests.{passes, may}
use Rattle.other_abstract.specs.Lists.{window_in}
use Rattle.bit_encode.proofs.FactLemmas.{any_tells_more}
use Rattle.bit_encode.proofs.facts.may_fail_at.Goals as goal

pub loop-list-preserved : goal.loop-list-preserved
loop-list-preserved c =
    any_tells_more _ _ _ _ c.args.scene.now.cells.now _ _ _ (λ w ns. may (window_in c.args.scene.now.window) w (c.args.front.now ++ ns) c.args.body.now (passes false)) c.args.lists.now c.loop-list.list-index _ c.as_slice.result.now c.loop-list-test.true (c.as_slice.ensures ∙ c.list-item.is)
    c.loop-list.invariant c.may_be_at.ensures.keeps c.in_ok-one.ensures.tells c.either.ensures.keeps c.in_ok-any.ensures.edge c.in_ok-any.ensures.value
