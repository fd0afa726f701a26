use Rattle.term_core.proofs.StepLemmas.{step_taken, step_refused, step_cells, step_state, start_is_state}
use Rattle.term_core.proofs.laws.updates_make_steps.Goals as goal

pub returns-clause-taken : goal.returns-clause-taken
returns-clause-taken c = step_taken

pub returns-clause-refused : goal.returns-clause-refused
returns-clause-refused c = step_refused

pub returns-clause-cells : goal.returns-clause-cells
returns-clause-cells c = step_cells

pub returns-clause-state : goal.returns-clause-state
returns-clause-state c = step_state

pub returns-clause-starts : goal.returns-clause-starts
returns-clause-starts c = start_is_state
