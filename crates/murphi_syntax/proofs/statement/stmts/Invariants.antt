use Rattle.std.proofs.Common.{◌-◌, ◌≤◌, length}
use Rattle.murphi_syntax.specs.Steps.{StmtsSoFar}
use Rattle.murphi_syntax.proofs.statement.stmts.Given as goal

abbrev pub invariant-steps : goal.invariant-steps
invariant-steps l = StmtsSoFar l.nesting l.tokens l.fn.at l.here l.out × (l.fn.at ≤ l.here) × (l.here ≤ length l.tokens)

abbrev pub decreases-steps : goal.decreases-steps
decreases-steps l = length l.tokens - l.here
