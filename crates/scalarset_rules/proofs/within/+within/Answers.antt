use Rattle.std.proofs.Common.{reverse}
use Rattle.scalarset_rules.specs.Accesses.{opened_in, loops_in}
use Rattle.scalarset_rules.proofs.WithinEquations.{judge_step, within_step}
use Rattle.scalarset_rules.proofs.within.+within.Goals as goal

pub judge_all-loop-one-preserved : goal.judge_all-loop-one-preserved
judge_all-loop-one-preserved t c =
    judge_step (opened_in (reverse c.args.routines.now)) (loops_in (reverse c.args.routines.now)) c.args.depth c.args.by c.args.all.now c.loop-one.one-index c.one-item.result
    c.loop-one.first c.first_of-first.result c.in_ok-more.more c.loop-one-test.true c.one-item.is c.first_of-first.ensures c.in_ok-more.ensures c.loop-one.invariant

pub judge_one-returns-in_ok-b-in-Within : goal.judge_one-returns-in_ok-b-in-Within
judge_one-returns-in_ok-b-in-Within t c =
    within_step c.args.routines.now c.args.depth c.args.by c.args.one.now c.in-Within.routine c.as_slice-in-Within.result.now c.in-Within.stands c.in-Within.at c.or_call-call.result
    c.in_ok-b-in-Within.b c.in_ok-b-in-Within.ensures c.or_call-call.ensures c.as_slice-in-Within.ensures c.in-Within.is
