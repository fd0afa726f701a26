use Rattle.std.proofs.Common.{◌≡◌}
use Rattle.murphi_typed.specs.Values.{members}
use Rattle.rule_terms.proofs.values.members.Given as goal

abbrev pub invariant-loop-k : goal.invariant-loop-k
invariant-loop-k l = l.out ≡ members l.kind l.k
