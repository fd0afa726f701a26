use Rattle.type_routines.proofs.RoutineLemmas.{routine-done}
use Rattle.type_routines.proofs.routines.routine.Goals as goal

pub returns : goal.returns
returns c =
    routine-done c.args.one.now c.args.done c.len-names.result c.is_some-function.result c.as_slice-all.result.now c.in_ok-taken.taken c.in_ok-made.made c.leave.new.context c.sooner-fault.result
    c.len-names.ensures c.is_some-function.ensures c.as_slice-all.ensures c.in_ok-taken.ensures c.in_ok-made.ensures c.sooner-fault.ensures c.leave.ensures
