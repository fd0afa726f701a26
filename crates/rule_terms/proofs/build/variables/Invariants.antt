use Rattle.std.proofs.Common.{◌≡◌}
use Rattle.rule_inline.specs.Tables.{variables}
use Rattle.rule_terms.proofs.build.variables.Given as goal

abbrev pub invariant-loop-k : goal.invariant-loop-k
invariant-loop-k l = l.out ≡ variables l.first l.k
