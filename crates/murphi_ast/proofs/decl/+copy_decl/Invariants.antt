use Rattle.std.proofs.Common.{◌≡◌, take}
use Rattle.murphi_ast.proofs.decl.+copy_decl.Given as goal

abbrev pub invariant-copy_decls-loop-one : goal.invariant-copy_decls-loop-one
invariant-copy_decls-loop-one l = l.out ≡ take l.one-index l.all
