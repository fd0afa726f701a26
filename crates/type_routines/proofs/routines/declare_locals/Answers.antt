use Rattle.std.proofs.Common.{false, arith}
use Rattle.murphi_types.specs.Declarations.{declared, all_declared}
use Rattle.type_routines.proofs.TurnLemmas.{turn}
use Rattle.type_routines.proofs.RoutineLemmas.{all-last}
use Rattle.type_routines.proofs.routines.declare_locals.Goals as goal

pub loop-one-preserved : goal.loop-one-preserved
loop-one-preserved c =
    turn false (all_declared false) (declared false) (all-last false) c.args.all.now c.loop-one.one-index c.one-item.result c.args.done.now c.loop-one.done c.declare.new.done
    (omega arith) c.one-item.is c.loop-one.invariant c.in_ok-declare.ensures
