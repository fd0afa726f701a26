use Rattle.abstract_rows.proofs.Worked.{starts, faults}
use Rattle.abstract_rows.proofs.starts_are_as_worked.Goals as goal

pub returns-clause-starts : goal.returns-clause-starts
returns-clause-starts c = starts

pub returns-clause-faults : goal.returns-clause-faults
returns-clause-faults c = faults
