use Rattle.std.proofs.Common.{map, get_or, set, ap, ◌∙◌, arith}
use Rattle.std.proofs.lemmas.List.{get_or_default}
use Rattle.std.proofs.lemmas.List.Edits.{map_over_more}
use Rattle.sat_arena.specs.Linking.{moved_id, moved_of}
use Rattle.sat_arena.proofs.compacting.rename_all.Goals as goal

pub loop-ids-preserved : goal.loop-ids-preserved
loop-ids-preserved c =
    ap (set c.loop-ids.watched c.loop-ids.ids-index) c.rename.ensures
    ∙ map_over_more (map (moved_id (moved_of c.args.slots.now))) c.args.watched.now c.loop-ids.watched c.loop-ids.ids-index (get_or c.loop-ids.watched c.loop-ids.ids-index c.ids-item.result) c.loop-ids-test.true c.loop-ids.invariant
    (get_or_default c.loop-ids.watched c.loop-ids.ids-index c.ids-item.result (get_or c.loop-ids.watched c.loop-ids.ids-index c.ids-item.result) (omega arith))
