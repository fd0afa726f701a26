use Rattle.std.proofs.Common.{subst}
use Rattle.circuit_core.specs.Network.{Network, IsNetwork}
use Rattle.circuit_core.proofs.EdgeLemmas.{constant_value, placed_value}
use Rattle.circuit_core.proofs.circuit.Circuit.gates.Goals as goal

pub returns-clause-constant : goal.returns-clause-constant
returns-clause-constant c = constant_value c.args.self.now

pub returns-clause-values : goal.returns-clause-values
returns-clause-values c = λ x. placed_value c.args.self.now x (subst (λ (s : Network). IsNetwork s.inputs s.gates) c.self.view_is c.self.invariant)
