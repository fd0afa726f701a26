use Rattle.std.proofs.Common.{◌≡◌, [], drop}
use Rattle.type_names.specs.Known.{with_known}
use Rattle.type_names.proofs.formulas.known_scope.Given as goal

abbrev pub invariant-loop-one : goal.invariant-loop-one
invariant-loop-one l = with_known l.names (drop l.one-index l.global) ≡ with_known [] l.global
