use Rattle.std.proofs.Common.{◌≡◌, ◌++◌, take, drop, map}
use Rattle.sat_arena.specs.Linking.{moved_id, moved_of}
use Rattle.sat_arena.proofs.compacting.rename.Given as goal

abbrev pub invariant-loop-id : goal.invariant-loop-id
invariant-loop-id l = l.ids ≡ map (moved_id (moved_of l.slots)) (take l.id-index l.fn.ids) ++ drop l.id-index l.fn.ids
