use Rattle.term_core.proofs.DependLemmas.{variables_matter, cells_matter}
use Rattle.term_core.proofs.SubstitutionLemmas.{lifted_value}
use Rattle.term_core.proofs.laws.values_depend_on_what_is_read.Goals as goal

pub returns-clause-variables : goal.returns-clause-variables
returns-clause-variables c = variables_matter

pub returns-clause-cells : goal.returns-clause-cells
returns-clause-cells c = cells_matter

pub returns-clause-more : goal.returns-clause-more
returns-clause-more c = lifted_value
