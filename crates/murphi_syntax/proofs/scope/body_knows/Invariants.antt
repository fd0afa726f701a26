use Rattle.std.proofs.Common.{◌≡◌, drop}
use Rattle.std.specs.List.{list_all}
use Rattle.murphi_ast.specs.Flat.{stmt_knows}
use Rattle.murphi_syntax.specs.Scope.{names_of}
use Rattle.murphi_syntax.proofs.scope.body_knows.Given as goal

abbrev pub invariant-loop-stmt : goal.invariant-loop-stmt
invariant-loop-stmt l = list_all (stmt_knows (names_of l.names)) (drop l.stmt-index l.body) ≡ list_all (stmt_knows (names_of l.names)) l.body
