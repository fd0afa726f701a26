use Rattle.std.proofs.Common.{subst}
use Rattle.circuit_core.specs.Network.{Network, IsNetwork}
use Rattle.circuit_core.proofs.EdgeLemmas.{same_value}
use Rattle.circuit_core.proofs.circuit.Circuit.inputs.Goals as goal

pub returns-clause-depends : goal.returns-clause-depends
returns-clause-depends c = same_value c.args.self.now (subst (λ (s : Network). IsNetwork s.inputs s.gates) c.self.view_is c.self.invariant)
