use Rattle.scalarset_rules.proofs.JudgeEquations.{write_step}
use Rattle.scalarset_rules.proofs.judge.writes.Goals as goal

pub loop-w-preserved : goal.loop-w-preserved
loop-w-preserved c =
    write_step c.args.v c.args.all.now c.loop-w.w-index c.w-item.result c.loop-w.first c.write_break.result c.first_of-first.result
    c.loop-w-test.true c.w-item.is c.first_of-first.ensures c.write_break.ensures c.loop-w.invariant
