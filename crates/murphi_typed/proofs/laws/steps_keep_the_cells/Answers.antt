use Rattle.murphi_typed.proofs.StepLemmas.{start_is_state, step_is_state, reached_is_state}
use Rattle.murphi_typed.proofs.laws.steps_keep_the_cells.Goals as goal

pub returns-clause-starts : goal.returns-clause-starts
returns-clause-starts c = start_is_state

pub returns-clause-steps : goal.returns-clause-steps
returns-clause-steps c = step_is_state

pub returns-clause-reached : goal.returns-clause-reached
returns-clause-reached c = reached_is_state
