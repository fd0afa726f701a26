use Rattle.type_statements.specs.Stating.{leaving_of}
use Rattle.type_routines.proofs.RoutineLemmas.{finish-done}
use Rattle.type_routines.proofs.routines.finish.Goals as goal

pub returns : goal.returns
returns c =
    finish-done c.args.one.now c.args.formals c.args.of c.args.done c.is_some-function.result (leaving_of c.leaving-leaving.result) c.as_slice-all.result.now c.statements.new.context c.in_ok-body.body c.are_none-typed.result c.sooner-rest.result c.sooner-fault.result c.name_routine.new.known c.add_routine.new.known c.in_ok-name.name
    c.is_some-function.ensures c.leaving-leaving.ensures c.as_slice-all.ensures c.in_ok-body.ensures.part c.in_ok-body.ensures.context c.are_none-typed.ensures c.sooner-rest.ensures c.sooner-fault.ensures c.in_ok-name_routine.ensures c.in_ok-name.ensures c.in_ok-add_routine.ensures
