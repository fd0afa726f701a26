use Rattle.std.proofs.Common.{◌≡◌, drop}
use Rattle.type_names.specs.Bodies.{list_stmts, list_arms, list_cases}
use Rattle.type_names.proofs.statements.+walk.Given as goal

abbrev pub invariant-walk_stmts-loop-one : goal.invariant-walk_stmts-loop-one
invariant-walk_stmts-loop-one l =
    list_stmts l.name l.hidden (drop l.one-index l.all) l.g ≡ list_stmts l.name l.hidden l.all l.fn.so_far

abbrev pub invariant-walk_arms-loop-one : goal.invariant-walk_arms-loop-one
invariant-walk_arms-loop-one l =
    list_arms l.name l.hidden (drop l.one-index l.all) l.g ≡ list_arms l.name l.hidden l.all l.fn.so_far

abbrev pub invariant-walk_cases-loop-one : goal.invariant-walk_cases-loop-one
invariant-walk_cases-loop-one l =
    list_cases l.name l.hidden (drop l.one-index l.all) l.g ≡ list_cases l.name l.hidden l.all l.fn.so_far
