use Rattle.std.proofs.Common.{◌≡◌, ◌++◌, map, drop}
use Rattle.scalarset_rules.specs.Seen.{scope_at, seen_loop}
use Rattle.scalarset_rules.specs.Pieces.{list_loops, list_arm_loops, list_case_loops}
use Rattle.scalarset_rules.proofs.nested.+loops.Given as goal

abbrev pub invariant-loops_of_all-loop-s : goal.invariant-loops_of_all-loop-s
invariant-loops_of_all-loop-s l = (map seen_loop l.out ++ list_loops (scope_at l.level.depth l.level.bound l.stands) (drop l.s-index l.body)) ≡ list_loops (scope_at l.level.depth l.level.bound l.stands) l.body

abbrev pub invariant-loops_of_arms-loop-arm : goal.invariant-loops_of_arms-loop-arm
invariant-loops_of_arms-loop-arm l = (map seen_loop l.out ++ list_arm_loops (scope_at l.level.depth l.level.bound l.stands) (drop l.arm-index l.arms)) ≡ list_arm_loops (scope_at l.level.depth l.level.bound l.stands) l.arms

abbrev pub invariant-loops_of_cases-loop-case : goal.invariant-loops_of_cases-loop-case
invariant-loops_of_cases-loop-case l = (map seen_loop l.out ++ list_case_loops (scope_at l.level.depth l.level.bound l.stands) (drop l.case-index l.cases)) ≡ list_case_loops (scope_at l.level.depth l.level.bound l.stands) l.cases
