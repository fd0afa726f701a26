use Rattle.std.proofs.Common.{◌≡◌, drop}
use Rattle.scalarset_rules.specs.Rules.{marks, has_at}
use Rattle.scalarset_rules.proofs.shape.is_at.Given as goal

abbrev pub invariant-loop-part : goal.invariant-loop-part
invariant-loop-part l = has_at l.v l.left (marks (drop l.part-index l.parts)) ≡ has_at l.v l.place (marks l.parts)
