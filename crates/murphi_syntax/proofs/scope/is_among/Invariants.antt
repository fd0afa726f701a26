use Rattle.std.proofs.Common.{◌≡◌, drop}
use Rattle.murphi_ast.specs.Flat.{is_among}
use Rattle.murphi_syntax.specs.Scope.{names_of}
use Rattle.murphi_syntax.proofs.scope.is_among.Given as goal

abbrev pub invariant-loop-one : goal.invariant-loop-one
invariant-loop-one l = is_among (names_of (drop l.one-index l.names)) l.name ≡ is_among (names_of l.names) l.name
