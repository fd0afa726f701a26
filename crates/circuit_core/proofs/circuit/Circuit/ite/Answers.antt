use Rattle.circuit_core.proofs.EdgeLemmas.{keeps_edges}
use Rattle.circuit_core.proofs.circuit.Circuit.ite.Goals as goal

pub returns-in-Ok-clause-keeps : goal.returns-in-Ok-clause-keeps
returns-in-Ok-clause-keeps c = keeps_edges _ _ c.by_condition.ensures.grows
