use Rattle.std.proofs.Common.{◌-◌, ◌≤◌, length}
use Rattle.murphi_syntax.specs.Steps.{DeclaredSoFar}
use Rattle.murphi_syntax.proofs.declaration.declared.Given as goal

abbrev pub invariant-steps : goal.invariant-steps
invariant-steps l = DeclaredSoFar l.tokens l.fn.at l.here l.out × (l.fn.at ≤ l.here) × (l.here ≤ length l.tokens)

abbrev pub decreases-steps : goal.decreases-steps
decreases-steps l = length l.tokens - l.here
