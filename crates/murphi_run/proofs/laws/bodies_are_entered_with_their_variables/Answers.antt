use Rattle.murphi_run.proofs.BlockLemmas.{top_is_layout, blank_holds, entry_holds}
use Rattle.murphi_run.proofs.laws.bodies_are_entered_with_their_variables.Goals as goal

pub returns-clause-apart : goal.returns-clause-apart
returns-clause-apart c = top_is_layout

pub returns-clause-blanks : goal.returns-clause-blanks
returns-clause-blanks c = blank_holds

pub returns-clause-entries : goal.returns-clause-entries
returns-clause-entries c = λ N T locals values cells whole holds fresh. entry_holds N T locals values cells whole holds fresh
