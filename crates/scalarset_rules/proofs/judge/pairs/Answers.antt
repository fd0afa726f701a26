use Rattle.scalarset_rules.specs.Seen.{seen_access}
use Rattle.scalarset_rules.proofs.JudgeEquations.{pair_step}
use Rattle.scalarset_rules.proofs.judge.pairs.Goals as goal

pub loop-a-preserved : goal.loop-a-preserved
loop-a-preserved c =
    pair_step c.args.v c.args.place (seen_access c.args.w.now) c.args.all.now c.loop-a.a-index c.a-item.result c.loop-a.first c.pair.result c.first_of-first.result
    c.loop-a-test.true c.a-item.is c.first_of-first.ensures c.pair.ensures c.loop-a.invariant
