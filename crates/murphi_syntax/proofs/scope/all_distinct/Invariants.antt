use Rattle.std.proofs.Common.{◌≡◌, length}
use Rattle.murphi_ast.specs.Flat.{all_distinct}
use Rattle.murphi_syntax.specs.Scope.{names_of}
use Rattle.murphi_syntax.proofs.scope.all_distinct.Given as goal

abbrev pub invariant-loop-rest : goal.invariant-loop-rest
invariant-loop-rest l = all_distinct (names_of l.rest) ≡ all_distinct (names_of l.names)

abbrev pub decreases-loop-rest : goal.decreases-loop-rest
decreases-loop-rest l = length l.rest
