use Rattle.abstract_rows.proofs.Worked.{path, short, violations}
use Rattle.abstract_rows.proofs.path_is_as_worked.Goals as goal

pub returns-clause-path : goal.returns-clause-path
returns-clause-path c = path

pub returns-clause-short : goal.returns-clause-short
returns-clause-short c = short

pub returns-clause-violations : goal.returns-clause-violations
returns-clause-violations c = violations
