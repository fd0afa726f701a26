use Rattle.term_core.proofs.SubstitutionLemmas.{placing_binds}
use Rattle.term_core.proofs.VariableLemmas.{placed_below, placed_fits}
use Rattle.term_core.proofs.laws.placing_keeps_values.Goals as goal

pub returns-clause-values : goal.returns-clause-values
returns-clause-values c = placing_binds

pub returns-clause-variables : goal.returns-clause-variables
returns-clause-variables c = placed_below

pub returns-clause-reads : goal.returns-clause-reads
returns-clause-reads c = placed_fits
