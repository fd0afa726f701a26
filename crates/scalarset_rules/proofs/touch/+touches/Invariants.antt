use Rattle.std.proofs.Common.{◌≡◌, ◌++◌, map, drop}
use Rattle.scalarset_rules.specs.Seen.{scope_at, seen_piece}
use Rattle.scalarset_rules.specs.Pieces.{list_pieces, list_arms, list_cases}
use Rattle.scalarset_rules.proofs.touch.+touches.Given as goal

abbrev pub invariant-touches_all-loop-s : goal.invariant-touches_all-loop-s
invariant-touches_all-loop-s l = (map seen_piece l.out ++ list_pieces (scope_at l.level.depth l.level.bound l.stands) (drop l.s-index l.body)) ≡ list_pieces (scope_at l.level.depth l.level.bound l.stands) l.body

abbrev pub invariant-touches_arms-loop-arm : goal.invariant-touches_arms-loop-arm
invariant-touches_arms-loop-arm l = (map seen_piece l.out ++ list_arms (scope_at l.level.depth l.level.bound l.stands) (drop l.arm-index l.arms)) ≡ list_arms (scope_at l.level.depth l.level.bound l.stands) l.arms

abbrev pub invariant-touches_cases-loop-case : goal.invariant-touches_cases-loop-case
invariant-touches_cases-loop-case l = (map seen_piece l.out ++ list_cases (scope_at l.level.depth l.level.bound l.stands) (drop l.case-index l.cases)) ≡ list_cases (scope_at l.level.depth l.level.bound l.stands) l.cases
