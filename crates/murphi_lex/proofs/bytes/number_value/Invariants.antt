-- The digits so far are worth `value`, which is not too great yet.
use Rattle.std.proofs.Common.{◌≡◌, ◌≤◌, drop}
use Rattle.murphi_ast.specs.Bytes.{decimal_from}
use Rattle.murphi_lex.proofs.bytes.number_value.Given as goal

abbrev pub invariant-loop-d : goal.invariant-loop-d
invariant-loop-d l = (l.value ≤ 32767) × (decimal_from l.value (drop l.d-index l.digits) ≡ decimal_from 0 l.digits)
