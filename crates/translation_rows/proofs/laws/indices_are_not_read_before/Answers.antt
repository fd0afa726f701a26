use Rattle.translation_rows.proofs.Excluding.{writes_excluded}
use Rattle.translation_rows.proofs.laws.indices_are_not_read_before.Goals as goal

pub returns : goal.returns
returns c = writes_excluded
