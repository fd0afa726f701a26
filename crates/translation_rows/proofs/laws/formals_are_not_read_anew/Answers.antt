use Rattle.translation_rows.proofs.Excluding.{formals_excluded}
use Rattle.translation_rows.proofs.laws.formals_are_not_read_anew.Goals as goal

pub returns : goal.returns
returns c = formals_excluded
