use Rattle.std.proofs.Common.{◌≡◌, ◌≤◌, ◌++◌, take, drop}
use Rattle.sat_arena.specs.Linking.{numbered}
use Rattle.sat_arena.proofs.compacting.number.Given as goal

abbrev pub invariant-loop-slot : goal.invariant-loop-slot
invariant-loop-slot l = record {
  whole : take l.slot-index l.slots ++ numbered l.next (drop l.slot-index l.slots) ≡ numbered 0 l.fn.slots;
  below : l.next ≤ l.slot-index;
}
