use Rattle.term_core.proofs.StepLemmas.{filled_is_state}
use Rattle.term_core.proofs.AppendLemmas.{appended_cells, first_families, later_families}
use Rattle.term_core.proofs.FitLemmas.{more_fit}
use Rattle.term_core.proofs.laws.states_can_be_filled_and_joined.Goals as goal

pub returns-clause-filled : goal.returns-clause-filled
returns-clause-filled c = filled_is_state

pub returns-clause-cells : goal.returns-clause-cells
returns-clause-cells c = appended_cells

pub returns-clause-first : goal.returns-clause-first
returns-clause-first c = first_families

pub returns-clause-later : goal.returns-clause-later
returns-clause-later c = later_families

pub returns-clause-reads : goal.returns-clause-reads
returns-clause-reads c = more_fit
