use Rattle.murphi_run.proofs.CallLemmas.{calls_go_back, called_apart, called_held, places_stay, deepest, called_left}
use Rattle.murphi_run.proofs.laws.routines_are_entered_and_left.Goals as goal

pub returns-clause-back : goal.returns-clause-back
returns-clause-back c = calls_go_back

pub returns-clause-apart : goal.returns-clause-apart
returns-clause-apart c = called_apart

pub returns-clause-entries : goal.returns-clause-entries
returns-clause-entries c = called_held

pub returns-clause-places : goal.returns-clause-places
returns-clause-places c = places_stay

pub returns-clause-deepest : goal.returns-clause-deepest
returns-clause-deepest c = deepest

pub returns-clause-left : goal.returns-clause-left
returns-clause-left c = called_left
