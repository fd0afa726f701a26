use Rattle.std.proofs.Common.{arith}
use Rattle.std.proofs.lemmas.Bool.Decides.{nat_tests}
use Rattle.circuit_core.proofs.EdgeLemmas.{negated_value}
use Rattle.circuit_core.proofs.edge.not.Goals as goal

pub returns-then-e-eq1-clause-value : goal.returns-then-e-eq1-clause-value
returns-then-e-eq1-clause-value c =
    negated_value c.args.e (record { code = _ }) (omega arith) (grind (arith, nat_tests))

pub returns-else-e-eq1-clause-value : goal.returns-else-e-eq1-clause-value
returns-else-e-eq1-clause-value c =
    negated_value c.args.e (record { code = _ }) (omega arith) (grind (arith, nat_tests))
