use Rattle.std.proofs.Common.{◌≡◌, take}
use Rattle.murphi_ast.proofs.stmt.+copy_stmt.Given as goal

abbrev pub invariant-copy_arms-loop-one : goal.invariant-copy_arms-loop-one
invariant-copy_arms-loop-one l = l.out ≡ take l.one-index l.all

abbrev pub invariant-copy_cases-loop-one : goal.invariant-copy_cases-loop-one
invariant-copy_cases-loop-one l = l.out ≡ take l.one-index l.all

abbrev pub invariant-copy_stmts-loop-one : goal.invariant-copy_stmts-loop-one
invariant-copy_stmts-loop-one l = l.out ≡ take l.one-index l.all
