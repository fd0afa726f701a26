use Rattle.std.proofs.Common.{refl, sym, ◌∙◌}
use Rattle.circuit_core.proofs.EdgeLemmas.{falsity_value, truth_value}
use Rattle.circuit_core.proofs.circuit.Circuit.truth.Goals as goal

pub returns-then-value-clause-value : goal.returns-then-value-clause-value
returns-then-value-clause-value c = λ n x. truth_value n x (record { code = 1 }) refl ∙ sym c.if-value.true

pub returns-else-value-clause-value : goal.returns-else-value-clause-value
returns-else-value-clause-value c = λ n x. falsity_value n x (record { code = 0 }) refl ∙ sym c.if-value.false
