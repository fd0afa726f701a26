use Rattle.scalarset_rules.proofs.Samples.{forms, inner_loops, calls}
use Rattle.scalarset_rules.proofs.laws.worked_cases.Goals as goal

pub returns-clause-forms : goal.returns-clause-forms
returns-clause-forms c = forms

pub returns-clause-loops : goal.returns-clause-loops
returns-clause-loops c = inner_loops

pub returns-clause-calls : goal.returns-clause-calls
returns-clause-calls c = calls
