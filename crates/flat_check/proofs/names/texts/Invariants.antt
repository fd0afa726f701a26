use Rattle.std.proofs.Common.{◌≡◌, take, map}
use Rattle.murphi_ast.specs.declared.expr.Named.{Named}
use Rattle.flat_check.proofs.names.texts.Given as goal

-- the names so far
abbrev pub invariant-loop-one : goal.invariant-loop-one
invariant-loop-one l = l.names ≡ map (λ (n : Named). n.name) (take l.one-index l.declared)
