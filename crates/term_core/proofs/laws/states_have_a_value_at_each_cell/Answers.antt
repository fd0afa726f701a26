use Rattle.term_core.proofs.TableLemmas.{states_same}
use Rattle.term_core.proofs.StateLemmas.{blank_is_state, written_is_state, reached_is_state}
use Rattle.term_core.proofs.laws.states_have_a_value_at_each_cell.Goals as goal

pub returns-clause-one : goal.returns-clause-one
returns-clause-one c = states_same

pub returns-clause-blank : goal.returns-clause-blank
returns-clause-blank c = blank_is_state

pub returns-clause-written : goal.returns-clause-written
returns-clause-written c = written_is_state

pub returns-clause-reached : goal.returns-clause-reached
returns-clause-reached c = reached_is_state
