use Rattle.std.proofs.Common.{arith}
use Rattle.cnf_emit.proofs.ReachLemmas.{roots_step, all_roots}
use Rattle.cnf_emit.proofs.reach.mark_roots.Goals as goal

pub loop-root-preserved : goal.loop-root-preserved
loop-root-preserved c =
    roots_step c.args.marks.now c.loop-root.marks c.args.roots.now c.loop-root.root-index c.node.result (record { code = 0 }) c.node.ensures c.loop-root-test.true
    (omega (arith, c.requires c.loop-root.root-index (record { code = 0 }) c.loop-root-test.true)) c.loop-root.invariant

pub returns-clause-marked : goal.returns-clause-marked
returns-clause-marked c = all_roots c.loop-root.marks c.args.roots.now c.loop-root.root-index c.loop-root-test.false c.loop-root.invariant.marked
