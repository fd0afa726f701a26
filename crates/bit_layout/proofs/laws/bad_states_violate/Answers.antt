use Rattle.bit_layout.proofs.CodedLemmas.{bad_violates, faults_coded}
use Rattle.bit_layout.proofs.laws.bad_states_violate.Goals as goal

pub returns-clause-states : goal.returns-clause-states
returns-clause-states c = bad_violates c.definitions_are_decided.ensures.violations

pub returns-clause-faults : goal.returns-clause-faults
returns-clause-faults c = faults_coded c.definitions_are_decided.ensures.faults
