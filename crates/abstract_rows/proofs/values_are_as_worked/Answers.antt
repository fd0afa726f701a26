use Rattle.abstract_rows.proofs.Worked.{only, others, reads}
use Rattle.abstract_rows.proofs.values_are_as_worked.Goals as goal

pub returns-clause-only : goal.returns-clause-only
returns-clause-only c = only

pub returns-clause-others : goal.returns-clause-others
returns-clause-others c = others

pub returns-clause-reads : goal.returns-clause-reads
returns-clause-reads c = reads
