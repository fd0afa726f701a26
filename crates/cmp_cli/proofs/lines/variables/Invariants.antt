use Rattle.std.proofs.Common.{◌≡◌, ◌++◌, drop}
use Rattle.std.specs.Prelude.{flat_map}
use Rattle.murphi_ast.specs.State.{declared_by, variables}
use Rattle.cmp_cli.proofs.lines.variables.Given as goal

-- the names so far, and those of the declarations that are left
abbrev pub invariant-loop-decl : goal.invariant-loop-decl
invariant-loop-decl l = l.names ++ flat_map declared_by (drop l.decl-index l.decl-items) ≡ variables l.p
