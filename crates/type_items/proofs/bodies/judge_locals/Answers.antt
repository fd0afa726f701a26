use Rattle.std.proofs.Common.{arith}
use Rattle.type_items.proofs.BodyLemmas.{locals-step}
use Rattle.type_items.proofs.bodies.judge_locals.Goals as goal

pub loop-one-preserved : goal.loop-one-preserved
loop-one-preserved c =
    locals-step c.args.context c.args.all.now c.loop-one.one-index c.one-item.result c.loop-one.done c.declare.new.done
    (omega arith) c.one-item.is c.loop-one.invariant c.in_ok-declare.ensures
