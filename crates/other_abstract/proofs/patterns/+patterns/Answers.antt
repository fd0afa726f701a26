use Rattle.std.proofs.Common.{◌++◌, ◌∷◌, ◌+◌, [], ap, ◌∙◌, max, arith}
use Rattle.std.specs.List.{flat_map}
use Rattle.term_core.specs.Nodes.{nodes}
use Rattle.other_abstract.specs.declared.node.AbsNode.TheVariants.{Kept, Fired}
use Rattle.other_abstract.specs.Patterns.{patterns_after}
use Rattle.other_abstract.proofs.ListLemmas.{over_more, popped, both_added}
use Rattle.other_abstract.proofs.patterns.+patterns.Goals as goal

pub add_kept-loop-node-preserved : goal.add_kept-loop-node-preserved
add_kept-loop-node-preserved t c =
    let named = c.in_ok-push.ensures.ok ∙ ap (λ ns. ns ++ Kept (c.loop-node.node + 1) ∷ []) c.loop-node.invariant.1 in (
      over_more (λ k. patterns_after c.args.kept c.args.fired c.args.left (c.args.front.now ++ Kept k ∷ [])) c.loop-node.out.items c.add_patterns.new.out.items
          (c.args.out.now.items ++ flat_map (λ k. patterns_after c.args.kept c.args.fired c.args.left (c.args.front.now ++ Kept k ∷ [])) (nodes c.args.kept)) c.loop-node.node c.args.kept c.loop-node-test.true
          (c.in_ok-add_patterns.ensures.out ∙ ap (λ ns. c.loop-node.out.items ++ patterns_after c.args.kept c.args.fired c.args.left ns) named)
          c.loop-node.invariant.0,
      popped c.pop.result c.add_patterns.new.front c.pop.new.self c.args.front.now (Kept (c.loop-node.node + 1)) c.pop.ensures (c.in_ok-add_patterns.ensures.front ∙ named),
    )

pub add_fired-loop-node-preserved : goal.add_fired-loop-node-preserved
add_fired-loop-node-preserved t c =
    let named = c.in_ok-push.ensures.ok ∙ ap (λ ns. ns ++ Fired (c.loop-node.node + 1) ∷ []) c.loop-node.invariant.1 in (
      over_more (λ k. patterns_after c.args.kept (max c.args.fired k) c.args.left (c.args.front.now ++ Fired k ∷ [])) c.loop-node.out.items c.add_patterns.new.out.items
          (c.args.out.now.items ++ flat_map (λ k. patterns_after c.args.kept (max c.args.fired k) c.args.left (c.args.front.now ++ Fired k ∷ [])) (nodes (c.args.fired + 1))) c.loop-node.node (c.args.fired + 1) c.loop-node-test.true
          (c.in_ok-add_patterns.ensures.out ∙ ap (λ m. c.loop-node.out.items ++ patterns_after c.args.kept m c.args.left c.push.new.self) c.max.ensures
          ∙ ap (λ ns. c.loop-node.out.items ++ patterns_after c.args.kept (max c.args.fired (c.loop-node.node + 1)) c.args.left ns) named)
          c.loop-node.invariant.0,
      popped c.pop.result c.add_patterns.new.front c.pop.new.self c.args.front.now (Fired (c.loop-node.node + 1)) c.pop.ensures (c.in_ok-add_patterns.ensures.front ∙ named),
    )

pub add_patterns-returns-in_ok-add_fired-clause-out : goal.add_patterns-returns-in_ok-add_fired-clause-out
add_patterns-returns-in_ok-add_fired-clause-out t c =
    both_added c.args.kept c.args.fired c.args.left c.args.front.now c.add_kept.new.front c.args.out.now.items c.add_kept.new.out.items c.add_fired.new.out.items
    (omega arith) c.in_ok-add_kept.ensures.front c.in_ok-add_kept.ensures.out c.in_ok-add_fired.ensures.out
