use Rattle.std.proofs.Common.{◌≡◌, ◌++◌, take, drop, map}
use Rattle.sat_arena.specs.Linking.{moved_id, moved_of}
use Rattle.sat_arena.proofs.compacting.rename_all.Given as goal

abbrev pub invariant-loop-ids : goal.invariant-loop-ids
invariant-loop-ids l = l.watched ≡ map (map (moved_id (moved_of l.slots))) (take l.ids-index l.fn.watched) ++ drop l.ids-index l.fn.watched
