use Rattle.std.proofs.Common.{◌∙◌, ◌++◌, ◌∷◌, [], refl, arith}
use Rattle.other_abstract.specs.Lists.{window_in}
use Rattle.other_abstract.specs.Tests.{passes, may}
use Rattle.bit_encode.proofs.Growing.{keeps_all}
use Rattle.bit_encode.proofs.TermLemmas.{tallied_none, known_in, variable_in, read_in, negation_in, and_in, or_in, quantified_in, same_in, less_in, arith_in, choice_in, led_step, led_done, part_says, node_says, tallied_more, tallied_all, other_last, each_last}
use Rattle.bit_encode.proofs.term.+terms.Goals as goal

pub term_set-returns-in_ok-out-in-Known-clause-may : goal.term_set-returns-in_ok-out-in-Known-clause-may
term_set-returns-in_ok-out-in-Known-clause-may t c =
    known_in c.args.scene.now.cells.now (window_in c.args.scene.now.window) c.args.env.now.items _ c.args.t.now c.in-Known.value c.constant.result c.in_ok-out-in-Known.out
    c.in-Known.is c.constant.ensures c.in_ok-out-in-Known.ensures.value

pub term_set-returns-in_ok-out-in-Var-clause-may : goal.term_set-returns-in_ok-out-in-Var-clause-may
term_set-returns-in_ok-out-in-Var-clause-may t c =
    variable_in c.args.scene.now.cells.now (window_in c.args.scene.now.window) c.args.env.now.items _ c.args.t.now c.in-Var.number _ c.bound.result c.in_ok-out-in-Var.out
    c.in-Var.is c.as_slice.ensures.value c.bound.ensures c.in_ok-out-in-Var.ensures.value

pub term_set-returns-in_ok-out-in-Read-clause-may : goal.term_set-returns-in_ok-out-in-Read-clause-may
term_set-returns-in_ok-out-in-Read-clause-may t c =
    read_in c.args.scene.now.cells.now (window_in c.args.scene.now.window) c.args.env.now.items _ _ c.args.t.now c.in-Read.family c.in-Read.at c.as_slice-in-Read.result.now c.in_ok-leads-in-Read.leads c.members.result.now c.in_ok-out-in-Read.out
    c.in-Read.is c.as_slice-in-Read.ensures c.in_ok-leads-in-Read.ensures.leads c.members.ensures c.read.ensures.keeps c.in_ok-out-in-Read.ensures.value

pub term_set-returns-in_ok-out-in-Not-clause-may : goal.term_set-returns-in_ok-out-in-Not-clause-may
term_set-returns-in_ok-out-in-Not-clause-may t c =
    negation_in c.args.scene.now.cells.now (window_in c.args.scene.now.window) c.args.env.now.items _ _ c.args.t.now c.in-Not.body c.get.result.now c.in_ok-from-in-Not.from c.members-in-Not.result.now c.in_ok-out-in-Not.out
    c.in-Not.is c.get.ensures c.in_ok-from-in-Not.ensures.may c.members-in-Not.ensures c.negated.ensures.keeps c.in_ok-out-in-Not.ensures.value

pub term_set-returns-in_ok-out-in-And-clause-may : goal.term_set-returns-in_ok-out-in-And-clause-may
term_set-returns-in_ok-out-in-And-clause-may t c =
    and_in c.args.scene.now.cells.now (window_in c.args.scene.now.window) c.args.env.now.items _ _ c.args.t.now c.in-And.parts c.as_slice-in-And.result.now _ _ c.in_ok-out-in-And.out
    c.in-And.is c.as_slice-in-And.ensures c.in_ok-tally-in-And.ensures.each c.in_ok-tally-in-And.ensures.other c.verdict.ensures.keeps c.in_ok-out-in-And.ensures.value

pub term_set-returns-in_ok-out-in-Or-clause-may : goal.term_set-returns-in_ok-out-in-Or-clause-may
term_set-returns-in_ok-out-in-Or-clause-may t c =
    or_in c.args.scene.now.cells.now (window_in c.args.scene.now.window) c.args.env.now.items _ _ c.args.t.now c.in-Or.parts c.as_slice-in-Or.result.now _ _ c.in_ok-out-in-Or.out
    c.in-Or.is c.as_slice-in-Or.ensures c.in_ok-tally-in-Or.ensures.each c.in_ok-tally-in-Or.ensures.other c.verdict-in-Or.ensures.keeps c.in_ok-out-in-Or.ensures.value

pub term_set-returns-in_ok-out-in-If-clause-may : goal.term_set-returns-in_ok-out-in-If-clause-may
term_set-returns-in_ok-out-in-If-clause-may t c =
    choice_in c.args.scene.now.cells.now (window_in c.args.scene.now.window) c.args.env.now.items _ _ _ _ c.args.t.now c.in-If.test c.in-If.yes c.in-If.no c.get-in-If.result.now c.get-in-If-2.result.now c.get-in-If-3.result.now _ _
    c.in_ok-test-in-If.test c.in_ok-yes-in-If.yes c.in_ok-no-in-If.no c.members-in-If.result.now c.members-in-If-2.result.now c.members-in-If-3.result.now c.in_ok-out-in-If.out
    c.in-If.is c.get-in-If.ensures c.get-in-If-2.ensures c.get-in-If-3.ensures
    c.in_ok-test-in-If.ensures.may c.in_ok-test-in-If.ensures.env c.term_set-in-If-2.ensures.keeps c.in_ok-yes-in-If.ensures.may c.in_ok-yes-in-If.ensures.env c.term_set-in-If-3.ensures.keeps c.in_ok-no-in-If.ensures.may
    c.members-in-If.ensures c.members-in-If-2.ensures c.members-in-If-3.ensures c.chosen_by.ensures.keeps c.in_ok-out-in-If.ensures.value

pub term_set-returns-in_ok-out-in-Same-clause-may : goal.term_set-returns-in_ok-out-in-Same-clause-may
term_set-returns-in_ok-out-in-Same-clause-may t c =
    same_in c.args.scene.now.cells.now (window_in c.args.scene.now.window) c.args.env.now.items _ _ _ c.args.t.now c.in-Same.left c.in-Same.right c.get-in-Same.result.now c.get-in-Same-2.result.now _
    c.in_ok-left-in-Same.left c.in_ok-right-in-Same.right c.members-in-Same.result.now c.members-in-Same-2.result.now c.in_ok-out-in-Same.out
    c.in-Same.is c.get-in-Same.ensures c.get-in-Same-2.ensures c.in_ok-left-in-Same.ensures.may c.in_ok-left-in-Same.ensures.env c.term_set-in-Same-2.ensures.keeps c.in_ok-right-in-Same.ensures.may
    c.members-in-Same.ensures c.members-in-Same-2.ensures c.paired.ensures.keeps c.in_ok-out-in-Same.ensures.value

pub term_set-returns-in_ok-out-in-Less-clause-may : goal.term_set-returns-in_ok-out-in-Less-clause-may
term_set-returns-in_ok-out-in-Less-clause-may t c =
    less_in c.args.scene.now.cells.now (window_in c.args.scene.now.window) c.args.env.now.items _ _ _ c.args.t.now c.in-Less.left c.in-Less.right c.get-in-Less.result.now c.get-in-Less-2.result.now _
    c.in_ok-left-in-Less.left c.in_ok-right-in-Less.right c.members-in-Less.result.now c.members-in-Less-2.result.now c.in_ok-out-in-Less.out
    c.in-Less.is c.get-in-Less.ensures c.get-in-Less-2.ensures c.in_ok-left-in-Less.ensures.may c.in_ok-left-in-Less.ensures.env c.term_set-in-Less-2.ensures.keeps c.in_ok-right-in-Less.ensures.may
    c.members-in-Less.ensures c.members-in-Less-2.ensures c.paired-in-Less.ensures.keeps c.in_ok-out-in-Less.ensures.value

pub term_set-returns-in_ok-out-in-Arith-clause-may : goal.term_set-returns-in_ok-out-in-Arith-clause-may
term_set-returns-in_ok-out-in-Arith-clause-may t c =
    arith_in c.args.scene.now.cells.now (window_in c.args.scene.now.window) c.args.env.now.items _ _ _ c.in-Arith.op c.args.t.now c.in-Arith.left c.in-Arith.right c.get-in-Arith.result.now c.get-in-Arith-2.result.now _
    c.in_ok-left-in-Arith.left c.in_ok-right-in-Arith.right c.members-in-Arith.result.now c.members-in-Arith-2.result.now c.in_ok-out-in-Arith.out
    c.in-Arith.is c.get-in-Arith.ensures c.get-in-Arith-2.ensures c.in_ok-left-in-Arith.ensures.may c.in_ok-left-in-Arith.ensures.env c.term_set-in-Arith-2.ensures.keeps c.in_ok-right-in-Arith.ensures.may
    c.members-in-Arith.ensures c.members-in-Arith-2.ensures c.paired-in-Arith.ensures.keeps c.in_ok-out-in-Arith.ensures.value

pub term_set-returns-in_ok-out-in-Quantified-clause-may : goal.term_set-returns-in_ok-out-in-Quantified-clause-may
term_set-returns-in_ok-out-in-Quantified-clause-may t c =
    quantified_in c.args.scene.now.cells.now (window_in c.args.scene.now.window) c.args.env.now.items _ _ c.args.t.now c.in-Quantified.all c.in-Quantified.body c.get-in-Quantified.result.now _ _ c.in_ok-out-in-Quantified.out
    c.in-Quantified.is c.get-in-Quantified.ensures c.in_ok-tally-in-Quantified.ensures.each c.in_ok-tally-in-Quantified.ensures.other c.verdict-in-Quantified.ensures.keeps c.in_ok-out-in-Quantified.ensures.value

pub leads-loop-index-preserved : goal.leads-loop-index-preserved
leads-loop-index-preserved t c = (
  c.in_ok-values.ensures.env ∙ c.loop-index.invariant.0,
  keeps_all _ _ _ c.loop-index.invariant.1 (keeps_all _ _ _ c.term_set.ensures.keeps c.extended.ensures.keeps),
  c.in_ok-out-2.ensures.edges,
  led_step c.args.scene.now.cells.now (window_in c.args.scene.now.window) c.args.env.now.items _ _ _ c.args.at.now c.loop-index.index-index _ c.index-item.result c.loop-index.env.items
      c.loop-index.out c.members.result.now c.in_ok-out-2.out c.in_ok-values.values c.members-in-loop-index.result.now c.loop-index-test.true c.index-item.is
      c.loop-index.invariant.3 c.loop-index.invariant.0 c.term_set.ensures.keeps c.in_ok-values.ensures.may c.members.ensures c.members-in-loop-index.ensures c.extended.ensures.keeps c.in_ok-out-2.ensures.value,
)

pub leads-returns-clause-leads : goal.leads-returns-clause-leads
leads-returns-clause-leads t c =
    led_done c.args.scene.now.cells.now (window_in c.args.scene.now.window) c.args.env.now.items _ c.args.at.now c.loop-index.index-index c.loop-index.out (omega arith) c.loop-index.invariant.3

pub tally_parts-loop-part-preserved : goal.tally_parts-loop-part-preserved
tally_parts-loop-part-preserved t c = (
  c.in_ok-values.ensures.env ∙ c.loop-part.invariant.0,
  tallied_more _ _ _ _ c.args.scene.now.cells.now c.loop-part.out c.in_ok-out.out (λ w x b. may (window_in c.args.scene.now.window) w c.args.env.now.items x (passes b)) c.args.wanted c.args.parts.now c.loop-part.part-index _ c.part-item.result c.in_ok-values.values c.members.result.now
      c.loop-part-test.true c.part-item.is c.loop-part.invariant.1 c.term_set.ensures.keeps
      (part_says c.args.scene.now.cells.now (window_in c.args.scene.now.window) c.args.env.now.items _ c.loop-part.env.items c.part-item.result c.in_ok-values.values c.loop-part.invariant.0 c.in_ok-values.ensures.may)
      c.counted.ensures.keeps c.members.ensures c.in_ok-out.ensures.each_edge c.in_ok-out.ensures.other_edge c.in_ok-out.ensures.each c.in_ok-out.ensures.other,
)

pub tally_nodes-loop-node-preserved : goal.tally_nodes-loop-node-preserved
tally_nodes-loop-node-preserved t c = (
  c.in_ok-values.ensures.env ∙ c.loop-node.invariant.0,
  tallied_more _ _ _ _ c.args.scene.now.cells.now c.loop-node.out c.in_ok-out.out (λ w n b. may (window_in c.args.scene.now.window) w (c.args.env.now.items ++ n ∷ []) c.args.body.now (passes b)) c.args.wanted c.args.scene.now.window.nodes.now c.loop-node.node-index _ _ c.in_ok-values.values c.members.result.now
      c.loop-node-test.true refl c.loop-node.invariant.1 c.term_set_at.ensures.keeps
      (node_says c.args.scene.now.cells.now (window_in c.args.scene.now.window) c.args.env.now.items _ c.loop-node.env.items _ c.args.body.now c.in_ok-values.values c.loop-node.invariant.0 c.in_ok-values.ensures.may)
      c.counted.ensures.keeps c.members.ensures c.in_ok-out.ensures.each_edge c.in_ok-out.ensures.other_edge c.in_ok-out.ensures.each c.in_ok-out.ensures.other,
)

pub tally_parts-returns-clause-each : goal.tally_parts-returns-clause-each
tally_parts-returns-clause-each t c = (tallied_all _ _ _ _ _ _ _ _ (omega arith) c.loop-part.invariant.1).each

pub tally_parts-returns-clause-other : goal.tally_parts-returns-clause-other
tally_parts-returns-clause-other t c = (tallied_all _ _ _ _ _ _ _ _ (omega arith) c.loop-part.invariant.1).other

pub tally_nodes-returns-clause-each : goal.tally_nodes-returns-clause-each
tally_nodes-returns-clause-each t c =
    each_last _ _ _ _ c.args.scene.now.cells.now c.loop-node.out _ (λ w n b. may (window_in c.args.scene.now.window) w (c.args.env.now.items ++ n ∷ []) c.args.body.now (passes b)) c.args.wanted c.args.scene.now.window.nodes.now _ c.loop-node.node-index
    (omega arith) c.requires.scene.nodes c.loop-node.invariant.1 c.term_set_at-2.ensures.keeps c.counted_last.ensures.keeps c.in_ok-last.ensures.each

pub tally_nodes-returns-clause-other : goal.tally_nodes-returns-clause-other
tally_nodes-returns-clause-other t c =
    other_last _ _ _ _ c.args.scene.now.cells.now c.loop-node.out _ (λ w n b. may (window_in c.args.scene.now.window) w (c.args.env.now.items ++ n ∷ []) c.args.body.now (passes b)) c.args.wanted c.args.scene.now.window.nodes.now _ c.loop-node.node-index _ c.in_ok-values-2.values c.members-2.result.now
    (omega arith) c.requires.scene.nodes c.loop-node.invariant.1 c.term_set_at-2.ensures.keeps
    (node_says c.args.scene.now.cells.now (window_in c.args.scene.now.window) c.args.env.now.items _ c.loop-node.env.items _ c.args.body.now c.in_ok-values-2.values c.loop-node.invariant.0 c.in_ok-values-2.ensures.may)
    c.counted_last.ensures.keeps c.members-2.ensures c.in_ok-last.ensures.other

pub tally_parts-loop-part-init : goal.tally_parts-loop-part-init
tally_parts-loop-part-init t c = (
  refl,
  tallied_none c.args.circuit.now _ c.truth.result c.truth-2.result _ _ (c.truth.ensures.edge c.args.circuit.now) (c.truth-2.ensures.edge c.args.circuit.now)
      (λ x val a. a.at c.truth.result (c.truth.ensures.edge c.args.circuit.now) ∙ c.truth.ensures.value c.args.circuit.now x) (λ x val a. a.at c.truth-2.result (c.truth-2.ensures.edge c.args.circuit.now) ∙ c.truth-2.ensures.value c.args.circuit.now x),
)

pub tally_nodes-loop-node-init : goal.tally_nodes-loop-node-init
tally_nodes-loop-node-init t c = (
  refl,
  tallied_none c.args.circuit.now _ c.truth.result c.truth-2.result _ _ (c.truth.ensures.edge c.args.circuit.now) (c.truth-2.ensures.edge c.args.circuit.now)
      (λ x val a. a.at c.truth.result (c.truth.ensures.edge c.args.circuit.now) ∙ c.truth.ensures.value c.args.circuit.now x) (λ x val a. a.at c.truth-2.result (c.truth-2.ensures.edge c.args.circuit.now) ∙ c.truth-2.ensures.value c.args.circuit.now x),
)
