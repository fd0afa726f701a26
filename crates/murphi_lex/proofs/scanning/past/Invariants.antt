-- The place so far, and the bytes that are left, give the place behind them all.
use Rattle.std.proofs.Common.{◌≡◌, drop}
use Rattle.murphi_ast.specs.Bytes.{past}
use Rattle.murphi_lex.proofs.scanning.past.Given as goal

abbrev pub invariant-loop-b : goal.invariant-loop-b
invariant-loop-b l = past (drop l.b-index l.bytes) l.place ≡ past l.fn.bytes l.fn.at
