use Rattle.std.proofs.Common.{◌≡◌, take}
use Rattle.murphi_ast.proofs.rule.copy_binds.Given as goal

abbrev pub invariant-loop-one : goal.invariant-loop-one
invariant-loop-one l = l.out ≡ take l.one-index l.all
