use Rattle.std.proofs.Common.{◌≡◌, ◌++◌, drop}
use Rattle.murphi_syntax.specs.Scope.{named_in}
use Rattle.murphi_syntax.proofs.scope.declared_names.Given as goal

-- the names so far, and those of the declarations that are left
abbrev pub invariant-loop-decl : goal.invariant-loop-decl
invariant-loop-decl l = l.out ++ named_in (drop l.decl-index l.decls) ≡ named_in l.decls
