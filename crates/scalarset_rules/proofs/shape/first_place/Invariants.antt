use Rattle.std.proofs.Common.{◌≡◌, ◌≤◌, drop}
use Rattle.scalarset_rules.specs.Rules.{marks, first_at}
use Rattle.scalarset_rules.proofs.ShapeEquations.{later}
use Rattle.scalarset_rules.proofs.shape.first_place.Given as goal

abbrev pub invariant-loop-part : goal.invariant-loop-part
invariant-loop-part l = (later l.passed (first_at l.v (marks (drop l.part-index l.parts))) ≡ first_at l.v (marks l.parts)) × (l.passed ≤ l.part-index)
