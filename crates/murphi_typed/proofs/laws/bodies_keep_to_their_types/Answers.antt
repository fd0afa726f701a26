use Rattle.murphi_typed.proofs.TypedLemmas.{body_keeps, results_given, called_typed, state_typed, blank_typed}
use Rattle.murphi_typed.proofs.laws.bodies_keep_to_their_types.Goals as goal

pub returns-clause-cells : goal.returns-clause-cells
returns-clause-cells c = body_keeps

pub returns-clause-results : goal.returns-clause-results
returns-clause-results c = results_given

pub returns-clause-called : goal.returns-clause-called
returns-clause-called c = called_typed

pub returns-clause-top : goal.returns-clause-top
returns-clause-top c = state_typed

pub returns-clause-blank : goal.returns-clause-blank
returns-clause-blank c = blank_typed
