use Rattle.std.proofs.Common.{◌≡◌, ◌++◌, map, drop}
use Rattle.std.specs.List.{flat_map}
use Rattle.scalarset_rules.specs.Seen.{scope_at, seen_piece}
use Rattle.scalarset_rules.specs.Pieces.{read_pieces}
use Rattle.scalarset_rules.proofs.touch.labels.Given as goal

abbrev pub invariant-loop-label : goal.invariant-loop-label
invariant-loop-label l = (map seen_piece l.out ++ flat_map (read_pieces (scope_at l.level.depth l.level.bound l.stands)) (drop l.label-index l.all)) ≡ flat_map (read_pieces (scope_at l.level.depth l.level.bound l.stands)) l.all
