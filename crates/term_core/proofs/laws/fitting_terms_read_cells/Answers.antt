use Rattle.term_core.proofs.FitLemmas.{reads_are_cells, cells_give_values}
use Rattle.term_core.proofs.laws.fitting_terms_read_cells.Goals as goal

pub returns-clause-reads : goal.returns-clause-reads
returns-clause-reads c = reads_are_cells

pub returns-clause-values : goal.returns-clause-values
returns-clause-values c = cells_give_values
