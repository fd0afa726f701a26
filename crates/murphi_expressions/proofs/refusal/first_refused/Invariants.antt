use Rattle.std.proofs.Common.{◌≡◌, drop}
use Rattle.murphi_expressions.specs.Expression.{first_refused}
use Rattle.murphi_expressions.proofs.refusal.first_refused.Given as goal

abbrev pub invariant-loop-token : goal.invariant-loop-token
invariant-loop-token l = first_refused (drop l.token-index l.tokens) ≡ first_refused l.tokens
