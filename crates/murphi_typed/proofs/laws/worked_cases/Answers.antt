use Rattle.murphi_typed.proofs.Samples.{expressions, quantifiers, assignments, choices, calls, steps, cells, prefixes, types}
use Rattle.murphi_typed.proofs.laws.worked_cases.Goals as goal

pub returns-clause-expressions : goal.returns-clause-expressions
returns-clause-expressions c = expressions

pub returns-clause-quantifiers : goal.returns-clause-quantifiers
returns-clause-quantifiers c = quantifiers

pub returns-clause-assignments : goal.returns-clause-assignments
returns-clause-assignments c = assignments

pub returns-clause-choices : goal.returns-clause-choices
returns-clause-choices c = choices

pub returns-clause-calls : goal.returns-clause-calls
returns-clause-calls c = calls

pub returns-clause-steps : goal.returns-clause-steps
returns-clause-steps c = steps

pub returns-clause-cells : goal.returns-clause-cells
returns-clause-cells c = cells

pub returns-clause-prefixes : goal.returns-clause-prefixes
returns-clause-prefixes c = prefixes

pub returns-clause-types : goal.returns-clause-types
returns-clause-types c = types
