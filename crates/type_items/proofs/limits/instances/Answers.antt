use Rattle.std.proofs.Common.{◌*◌, arith}
use Rattle.murphi_types.specs.Weights.{stopped}
use Rattle.murphi_types.specs.Items.{instances}
use Rattle.type_items.proofs.LimitLemmas.{turn-counts, turn-stops}
use Rattle.type_items.proofs.limits.instances.Goals as goal

pub loop-one-preserved : goal.loop-one-preserved
loop-one-preserved c = (
  turn-counts c.args.params.now c.loop-one.one-index c.one-item.result c.loop-one.count c.turns.result c.times-count.result (stopped (instances c.args.params.now))
      (omega arith) c.one-item.is c.turns.ensures c.times-count.ensures c.loop-one.invariant.0,
  turn-stops c.times-count.result (c.loop-one.count * c.turns.result) c.times-count.ensures,
)
