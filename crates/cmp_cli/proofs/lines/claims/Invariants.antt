use Rattle.std.proofs.Common.{◌≡◌}
use Rattle.cmp_cli.specs.Report.{claims_of_first}
use Rattle.cmp_cli.proofs.lines.claims.Given as goal

-- the claims so far
abbrev pub invariant-loop-k : goal.invariant-loop-k
invariant-loop-k l = l.lines ≡ claims_of_first l.items l.k
