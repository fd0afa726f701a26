use Rattle.std.proofs.Common.{◌++◌, ◌∷◌, [], ap, ◌∙◌}
use Rattle.std.specs.List.{flat_map}
use Rattle.term_core.specs.declared.term.Term as t
use Rattle.term_core.specs.Values.{below}
use Rattle.lemma_strengthen.specs.OpenLists.{instances_after}
use Rattle.lemma_strengthen.proofs.CountLemmas.{over_more, popped}
use Rattle.lemma_strengthen.proofs.instance.+choose.Goals as goal

pub choose_next-loop-node-preserved : goal.choose_next-loop-node-preserved
choose_next-loop-node-preserved r c =
    let named = c.in_ok-push.ensures.ok ∙ ap (λ ns. ns ++ t.Var c.loop-node.node ∷ []) c.loop-node.invariant.1 in (
      over_more (λ k. instances_after c.args.window c.args.body.now c.args.left (c.args.names.now ++ t.Var k ∷ [])) c.loop-node.out c.choose.new.out
          (c.args.out.now ++ flat_map (λ k. instances_after c.args.window c.args.body.now c.args.left (c.args.names.now ++ t.Var k ∷ [])) (below c.args.window)) c.loop-node.node c.args.window c.loop-node-test.true
          (c.in_ok-choose.ensures.out ∙ ap (λ ns. c.loop-node.out ++ instances_after c.args.window c.args.body.now c.args.left ns) named)
          c.loop-node.invariant.0,
      popped c.pop.result c.choose.new.names c.pop.new.self c.args.names.now (t.Var c.loop-node.node) c.pop.ensures (c.in_ok-choose.ensures.names ∙ named),
    )
