use Rattle.abstract_rows.proofs.Worked.{patterns, cells, refusals}
use Rattle.abstract_rows.proofs.counts_are_as_worked.Goals as goal

pub returns-clause-patterns : goal.returns-clause-patterns
returns-clause-patterns c = patterns

pub returns-clause-cells : goal.returns-clause-cells
returns-clause-cells c = cells

pub returns-clause-refusals : goal.returns-clause-refusals
returns-clause-refusals c = refusals
