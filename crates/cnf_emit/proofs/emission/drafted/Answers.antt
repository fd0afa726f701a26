use Rattle.std.proofs.Common.{length}
use Rattle.cnf_emit.proofs.EncodeLemmas.{first_node, next_node}
use Rattle.cnf_emit.proofs.CountLemmas.{first_count, next_count, whole_count, first_length, next_length, whole_length}
use Rattle.cnf_emit.proofs.emission.drafted.Goals as goal

pub loop-i-init : goal.loop-i-init
loop-i-init c =
    let node = first_node c.args.c.now c.args.marks.now c.inputs-inputs.result c.make-draft.result c.constant.new.self c.inputs-inputs.ensures.count c.make-draft.ensures c.in_ok-constant.ensures c.gates-gate-items.ensures.constant in
    record {
      encodes = node.0;
      nodes = node.1;
      few = first_count c.args.marks.now c.gates-gate-items.result.now c.args.c.now.inputs c.inputs-inputs.result c.make-draft.result c.constant.new.self c.inputs-inputs.ensures.count c.make-draft.ensures c.in_ok-constant.ensures;
      short = first_length c.args.marks.now c.gates-gate-items.result.now c.inputs-inputs.result c.make-draft.result c.constant.new.self c.make-draft.ensures c.in_ok-constant.ensures;
    }

pub loop-i-preserved : goal.loop-i-preserved
loop-i-preserved c =
    let node = next_node c.args.c.now c.args.marks.now c.gates-gate-items.result.now c.loop-i.i _ c.loop-i.draft c.gate.new.self c.gates-gate-items.ensures.items c.gates-gate-items.ensures.network c.gates-gate-items.ensures.values
    c.requires.closed c.loop-i-test.true c.loop-i.invariant.encodes c.loop-i.invariant.nodes c.in_ok-gate.ensures in
    record {
      encodes = node.0;
      nodes = node.1;
      few = next_count c.args.marks.now c.gates-gate-items.result.now c.loop-i.i c.args.c.now.inputs _ c.loop-i.draft c.gate.new.self c.loop-i-test.true c.loop-i.invariant.few c.in_ok-gate.ensures;
      short = next_length c.args.marks.now c.gates-gate-items.result.now c.loop-i.i _ c.loop-i.draft c.gate.new.self c.loop-i-test.true c.loop-i.invariant.short c.in_ok-gate.ensures;
    }

pub returns-clause-few : goal.returns-clause-few
returns-clause-few c =
    whole_count c.args.marks.now c.gates-gate-items.result.now c.args.c.now.gates c.loop-i.i c.args.c.now.inputs c.loop-i.draft.variables c.gates-gate-items.ensures.items c.loop-i-test.false c.loop-i.invariant.few

pub returns-clause-short : goal.returns-clause-short
returns-clause-short c =
    whole_length c.args.marks.now c.gates-gate-items.result.now c.args.c.now.gates c.loop-i.i (length c.loop-i.draft.clauses) c.gates-gate-items.ensures.items c.loop-i-test.false c.loop-i.invariant.short
