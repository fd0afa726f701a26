use Rattle.std.proofs.Common.{◌≡◌, drop}
use Rattle.murphi_ast.specs.Meaning.{after_all}
use Rattle.flat_check.proofs.firing.run_all.Given as goal

-- the statements that are left end where all of them do
abbrev pub invariant-loop-stmt : goal.invariant-loop-stmt
invariant-loop-stmt l = after_all l.names l.cells (drop l.stmt-index l.body) ≡ after_all l.names l.fn.cells l.body
