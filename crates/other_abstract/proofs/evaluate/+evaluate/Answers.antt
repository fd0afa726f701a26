use Rattle.std.proofs.Common.{sym, ap, ◌∙◌, Some, arith}
use Rattle.std.proofs.lemmas.Option.{slice_get-get_or}
use Rattle.other_abstract.specs.Lists.{window_in}
use Rattle.other_abstract.proofs.EvaluateLemmas.{and_done, or_done, quantified_done, same_done, less_done, arith_done, led_step, led_done, parts_step, nodes_step, nodes_last}
use Rattle.other_abstract.proofs.evaluate.+evaluate.Goals as goal

pub evaluate-returns-in_ok-out-in-And-clause-values : goal.evaluate-returns-in_ok-out-in-And-clause-values
evaluate-returns-in_ok-out-in-And-clause-values t c =
    and_done (window_in c.args.scene.now) c.args.scene.now.cells.now c.args.env.now.items c.args.t.now c.in-And.parts c.as_slice-in-And.result.now _ _ c.in_ok-out-in-And.out
    c.in-And.is c.as_slice-in-And.ensures c.in_ok-tally-in-And.ensures.each c.in_ok-tally-in-And.ensures.other c.in_ok-out-in-And.ensures

pub evaluate-returns-in_ok-out-in-Or-clause-values : goal.evaluate-returns-in_ok-out-in-Or-clause-values
evaluate-returns-in_ok-out-in-Or-clause-values t c =
    or_done (window_in c.args.scene.now) c.args.scene.now.cells.now c.args.env.now.items c.args.t.now c.in-Or.parts c.as_slice-in-Or.result.now _ _ c.in_ok-out-in-Or.out
    c.in-Or.is c.as_slice-in-Or.ensures c.in_ok-tally-in-Or.ensures.each c.in_ok-tally-in-Or.ensures.other c.in_ok-out-in-Or.ensures

pub evaluate-returns-in_ok-out-in-Same-clause-values : goal.evaluate-returns-in_ok-out-in-Same-clause-values
evaluate-returns-in_ok-out-in-Same-clause-values t c =
    same_done (window_in c.args.scene.now) c.args.scene.now.cells.now c.args.env.now.items c.args.t.now c.in-Same.left c.in-Same.right c.get-in-Same.result.now c.get-in-Same-2.result.now c.evaluate-in-Same.new.env.items
    c.in_ok-left-in-Same.left c.in_ok-right-in-Same.right c.values-in-Same.result.now c.values-in-Same-2.result.now c.in_ok-out-in-Same.out
    c.in-Same.is c.get-in-Same.ensures c.get-in-Same-2.ensures c.in_ok-left-in-Same.ensures.values c.in_ok-left-in-Same.ensures.env c.in_ok-right-in-Same.ensures.values
    c.values-in-Same.ensures.values c.values-in-Same-2.ensures.values c.in_ok-out-in-Same.ensures

pub evaluate-returns-in_ok-out-in-Less-clause-values : goal.evaluate-returns-in_ok-out-in-Less-clause-values
evaluate-returns-in_ok-out-in-Less-clause-values t c =
    less_done (window_in c.args.scene.now) c.args.scene.now.cells.now c.args.env.now.items c.args.t.now c.in-Less.left c.in-Less.right c.get-in-Less.result.now c.get-in-Less-2.result.now c.evaluate-in-Less.new.env.items
    c.in_ok-left-in-Less.left c.in_ok-right-in-Less.right c.values-in-Less.result.now c.values-in-Less-2.result.now c.in_ok-out-in-Less.out
    c.in-Less.is c.get-in-Less.ensures c.get-in-Less-2.ensures c.in_ok-left-in-Less.ensures.values c.in_ok-left-in-Less.ensures.env c.in_ok-right-in-Less.ensures.values
    c.values-in-Less.ensures.values c.values-in-Less-2.ensures.values c.in_ok-out-in-Less.ensures

pub evaluate-returns-in_ok-out-in-Arith-clause-values : goal.evaluate-returns-in_ok-out-in-Arith-clause-values
evaluate-returns-in_ok-out-in-Arith-clause-values t c =
    arith_done (window_in c.args.scene.now) c.args.scene.now.cells.now c.args.env.now.items c.args.t.now c.in-Arith.op c.in-Arith.left c.in-Arith.right c.get-in-Arith.result.now c.get-in-Arith-2.result.now c.evaluate-in-Arith.new.env.items
    c.in_ok-left-in-Arith.left c.in_ok-right-in-Arith.right c.values-in-Arith.result.now c.values-in-Arith-2.result.now c.in_ok-out-in-Arith.out
    c.in-Arith.is c.get-in-Arith.ensures c.get-in-Arith-2.ensures c.in_ok-left-in-Arith.ensures.values c.in_ok-left-in-Arith.ensures.env c.in_ok-right-in-Arith.ensures.values
    c.values-in-Arith.ensures.values c.values-in-Arith-2.ensures.values c.in_ok-out-in-Arith.ensures

pub evaluate-returns-in_ok-out-in-Quantified-clause-values : goal.evaluate-returns-in_ok-out-in-Quantified-clause-values
evaluate-returns-in_ok-out-in-Quantified-clause-values t c =
    quantified_done (window_in c.args.scene.now) c.args.scene.now.cells.now c.args.env.now.items c.args.t.now c.in-Quantified.all c.in-Quantified.body c.get-in-Quantified.result.now _ _ c.in_ok-out-in-Quantified.out
    c.in-Quantified.is c.get-in-Quantified.ensures c.in_ok-tally-in-Quantified.ensures.each c.in_ok-tally-in-Quantified.ensures.other c.in_ok-out-in-Quantified.ensures

pub leads-loop-index-preserved : goal.leads-loop-index-preserved
leads-loop-index-preserved t c = (
  c.in_ok-values.ensures.env ∙ c.loop-index.invariant.0,
  led_step (window_in c.args.scene.now) c.args.scene.now.cells.now c.args.env.now.items c.args.at.now c.loop-index.index-index c.index-item.result c.loop-index.env.items
      c.loop-index.out.items c.as_slice.result.now c.in_ok-out.out.items c.in_ok-values.values c.values-in-loop-index.result.now
      (slice_get-get_or c.args.at.now c.loop-index.index-index c.index-item.result c.loop-index-test.true ∙ ap Some (sym c.index-item.is))
      c.loop-index.invariant.1 c.loop-index.invariant.0 c.in_ok-values.ensures.values c.as_slice.ensures.value c.values-in-loop-index.ensures.values c.in_ok-out.ensures,
)

pub leads-returns-clause-leads : goal.leads-returns-clause-leads
leads-returns-clause-leads t c =
    led_done (window_in c.args.scene.now) c.args.scene.now.cells.now c.args.env.now.items c.args.at.now c.loop-index.index-index c.loop-index.out.items (omega arith) c.loop-index.invariant.1

pub tally_nodes-loop-node-preserved : goal.tally_nodes-loop-node-preserved
tally_nodes-loop-node-preserved t c =
    let r = nodes_step (window_in c.args.scene.now) c.args.scene.now.cells.now c.args.env.now.items c.args.wanted c.args.body.now c.args.scene.now.nodes.now c.loop-node.node-index _ c.loop-node.env.items
    c.in_ok-values.values c.loop-node.out.each c.counted-out.result.each c.loop-node.out.other c.counted-out.result.other
    (slice_get-get_or c.args.scene.now.nodes.now c.loop-node.node-index _ c.loop-node-test.true)
    c.loop-node.invariant.0 c.in_ok-values.ensures.values c.counted-out.ensures.each c.counted-out.ensures.other c.loop-node.invariant.1 c.loop-node.invariant.2 in (c.in_ok-values.ensures.env ∙ c.loop-node.invariant.0, r.0, r.1)

pub tally_nodes-returns-clause-other : goal.tally_nodes-returns-clause-other
tally_nodes-returns-clause-other t c =
    nodes_last (window_in c.args.scene.now) c.args.scene.now.cells.now c.args.env.now.items c.args.wanted c.args.body.now c.args.scene.now.nodes.now _ c.loop-node.node-index c.loop-node.env.items
    c.in_ok-values-2.values c.loop-node.out.other c.counted-last.result.other
    (omega arith) c.requires.nodes c.loop-node.invariant.0 c.in_ok-values-2.ensures.values c.counted-last.ensures.other c.loop-node.invariant.2

pub tally_parts-loop-part-preserved : goal.tally_parts-loop-part-preserved
tally_parts-loop-part-preserved t c =
    let r = parts_step (window_in c.args.scene.now) c.args.scene.now.cells.now c.args.env.now.items c.args.wanted c.args.parts.now c.loop-part.part-index c.part-item.result c.loop-part.env.items
    c.in_ok-values.values c.loop-part.out.each c.counted-out.result.each c.loop-part.out.other c.counted-out.result.other
    (slice_get-get_or c.args.parts.now c.loop-part.part-index c.part-item.result c.loop-part-test.true ∙ ap Some (sym c.part-item.is))
    c.loop-part.invariant.0 c.in_ok-values.ensures.values c.counted-out.ensures.each c.counted-out.ensures.other c.loop-part.invariant.1 c.loop-part.invariant.2 in (c.in_ok-values.ensures.env ∙ c.loop-part.invariant.0, r.0, r.1)
