use Rattle.std.proofs.Common.{◌≡◌, take}
use Rattle.murphi_ast.proofs.decl.copy_formals.Given as goal

abbrev pub invariant-loop-one : goal.invariant-loop-one
invariant-loop-one l = l.out ≡ take l.one-index l.all
