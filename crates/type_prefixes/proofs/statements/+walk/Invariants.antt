use Rattle.std.proofs.Common.{◌≡◌, drop}
use Rattle.type_prefixes.specs.WalkLists.{list_stmts, list_arms, list_cases}
use Rattle.type_prefixes.proofs.statements.+walk.Given as goal

abbrev pub invariant-walk_stmts-loop-one : goal.invariant-walk_stmts-loop-one
invariant-walk_stmts-loop-one l =
    list_stmts l.routines (drop l.one-index l.all) l.inside l.depth ≡ list_stmts l.routines l.all l.inside l.fn.so_far

abbrev pub invariant-walk_arms-loop-one : goal.invariant-walk_arms-loop-one
invariant-walk_arms-loop-one l =
    list_arms l.routines (drop l.one-index l.all) l.inside l.depth ≡ list_arms l.routines l.all l.inside l.fn.so_far

abbrev pub invariant-walk_cases-loop-one : goal.invariant-walk_cases-loop-one
invariant-walk_cases-loop-one l =
    list_cases l.routines (drop l.one-index l.all) l.inside l.depth ≡ list_cases l.routines l.all l.inside l.fn.so_far
