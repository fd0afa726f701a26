use Rattle.std.proofs.Common.{◌≡◌, ◌++◌, map, drop}
use Rattle.scalarset_rules.specs.Seen.{scope_at, seen_stand}
use Rattle.scalarset_rules.specs.Pieces.{list_stands}
use Rattle.scalarset_rules.proofs.place.stand_list.Given as goal

abbrev pub invariant-loop-arg : goal.invariant-loop-arg
invariant-loop-arg l = (map seen_stand l.out ++ list_stands (scope_at l.level.depth l.level.bound l.stands) (drop l.arg-index l.args)) ≡ list_stands (scope_at l.level.depth l.level.bound l.stands) l.args
