use Rattle.type_routines.proofs.TurnLemmas.{popped}
use Rattle.type_routines.proofs.routines.shorten.Goals as goal

pub loop-left-preserved : goal.loop-left-preserved
loop-left-preserved c =
    popped c.args.count c.loop-left.left c.args.names.now c.loop-left.names c.pop-gone.new.self c.pop-gone.result c.pop-gone.ensures
    c.loop-left-test.true c.loop-left.invariant.0 c.loop-left.invariant.1
