use Rattle.std.proofs.Common.{◌≡◌, ◌≤◌, ◌+◌, ◌-◌, ◌++◌, max, drop, map}
use Rattle.lemma_strengthen.specs.Opening.{opened}
use Rattle.lemma_strengthen.specs.OpenLists.{shared_taken, turn_taken, turn_opened}
use Rattle.lemma_strengthen.proofs.open.+open.Given as goal

abbrev pub invariant-open_shared-loop-one : goal.invariant-open_shared-loop-one
invariant-open_shared-loop-one l =
    (l.out ++ map (opened l.room.to l.sign l.fn.names l.room.next l.room.left) (drop l.one-index l.all) ≡ map (opened l.room.to l.sign l.fn.names l.room.next l.room.left) l.all)
    × (max l.taken (shared_taken l.sign l.room.left (drop l.one-index l.all)) ≡ shared_taken l.sign l.room.left l.all)
    × (l.taken ≤ l.room.left)
    × (l.names ≡ l.fn.names)

abbrev pub invariant-open_in_turn-loop-one : goal.invariant-open_in_turn-loop-one
invariant-open_in_turn-loop-one l =
    (l.out ++ turn_opened l.room.to l.sign l.fn.names (l.room.next + l.taken) (l.room.left - l.taken) (drop l.one-index l.all) ≡ turn_opened l.room.to l.sign l.fn.names l.room.next l.room.left l.all)
    × (l.taken + turn_taken l.sign (l.room.left - l.taken) (drop l.one-index l.all) ≡ turn_taken l.sign l.room.left l.all)
    × (l.taken ≤ l.room.left)
    × (l.names ≡ l.fn.names)
