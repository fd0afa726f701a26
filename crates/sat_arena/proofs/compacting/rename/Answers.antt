use Rattle.sat_arena.proofs.NumberLemmas.{renames_more}
use Rattle.sat_arena.proofs.compacting.rename.Goals as goal

pub loop-id-preserved : goal.loop-id-preserved
loop-id-preserved c = renames_more c.args.slots.now c.args.ids.now c.loop-id.ids c.loop-id.id-index (record { place = 0 }) c.index-slots-id.result c.loop-id-test.true c.requires c.loop-id.invariant
