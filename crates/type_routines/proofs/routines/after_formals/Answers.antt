use Rattle.type_routines.proofs.RoutineLemmas.{after-formals}
use Rattle.type_routines.proofs.routines.after_formals.Goals as goal

pub returns : goal.returns
returns c =
    after-formals c.args.one.now c.args.taken c.result_type.new.context c.in_ok-part.part c.sooner-fault.result c.begun-done.result c.as_slice-all.result.now c.declare_locals.new.done c.in_ok-made.made
    c.in_ok-part.ensures.part c.in_ok-part.ensures.context c.sooner-fault.ensures c.begun-done.ensures c.as_slice-all.ensures c.in_ok-declare_locals.ensures c.in_ok-made.ensures
