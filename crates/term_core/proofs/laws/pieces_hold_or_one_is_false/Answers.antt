use Rattle.term_core.proofs.RunLemmas.{pieces_one, pieces_not_both}
use Rattle.term_core.proofs.laws.pieces_hold_or_one_is_false.Goals as goal

pub returns-clause-one : goal.returns-clause-one
returns-clause-one c = pieces_one

pub returns-clause-never_both : goal.returns-clause-never_both
returns-clause-never_both c = pieces_not_both
