use Rattle.typed_laws.proofs.RegionLemmas.{reads_give_values, reads_give_endings}
use Rattle.typed_laws.proofs.laws.reads_determine_what_is_done.Goals as goal

pub returns-clause-values : goal.returns-clause-values
returns-clause-values c = reads_give_values

pub returns-clause-endings : goal.returns-clause-endings
returns-clause-endings c = reads_give_endings
