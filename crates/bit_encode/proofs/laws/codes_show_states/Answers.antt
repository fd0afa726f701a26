use Rattle.bit_encode.proofs.CellLemmas.{code_shows, code_is_seen, agreement_seen}
use Rattle.bit_encode.proofs.laws.codes_show_states.Goals as goal

pub returns-clause-shows : goal.returns-clause-shows
returns-clause-shows c = code_shows

pub returns-clause-legal : goal.returns-clause-legal
returns-clause-legal c = code_is_seen

pub returns-clause-agreement : goal.returns-clause-agreement
returns-clause-agreement c = agreement_seen
