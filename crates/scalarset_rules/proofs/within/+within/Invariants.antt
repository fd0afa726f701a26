use Rattle.std.proofs.Common.{◌≡◌, ◌+◌, ◌*◌, length, map, reverse, drop}
use Rattle.std.specs.List.{flat_map}
use Rattle.scalarset_rules.specs.Accesses.{opened_in, loops_in}
use Rattle.scalarset_rules.specs.Rules.{sooner, first_break, loop_breaks}
use Rattle.scalarset_rules.specs.Seen.{seen_loop, by_loops}
use Rattle.scalarset_rules.specs.Pieces.{opened_loops}
use Rattle.scalarset_rules.proofs.within.+within.Given as goal

abbrev pub invariant-judge_all-loop-one : goal.invariant-judge_all-loop-one
invariant-judge_all-loop-one l = sooner l.first (first_break (flat_map loop_breaks (by_loops l.by (opened_loops (opened_in (reverse l.routines)) (loops_in (reverse l.routines)) l.depth (map seen_loop (drop l.one-index l.all)))))) ≡ first_break (flat_map loop_breaks (by_loops l.by (opened_loops (opened_in (reverse l.routines)) (loops_in (reverse l.routines)) l.depth (map seen_loop l.all))))

abbrev pub decreases-judge_all : goal.decreases-judge_all
decreases-judge_all l = length l.routines.now * 3 + 2

abbrev pub decreases-judge_one : goal.decreases-judge_one
decreases-judge_one l = length l.routines.now * 3 + 1

abbrev pub decreases-enter_loops : goal.decreases-enter_loops
decreases-enter_loops l = length l.routines.now * 3
