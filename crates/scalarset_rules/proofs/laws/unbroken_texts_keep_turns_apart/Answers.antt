use Rattle.scalarset_rules.proofs.Texts.{functions_have_no_loops, unbroken_texts}
use Rattle.scalarset_rules.proofs.laws.unbroken_texts_keep_turns_apart.Goals as goal

pub returns-clause-apart : goal.returns-clause-apart
returns-clause-apart c = unbroken_texts

pub returns-clause-functions : goal.returns-clause-functions
returns-clause-functions c = functions_have_no_loops
