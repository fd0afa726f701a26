use Rattle.murphi_run.proofs.LeadLemmas.{lead_on}
use Rattle.murphi_run.proofs.AlikeLemmas.{stand_alike}
use Rattle.murphi_run.proofs.laws.places_have_the_numbers_of_their_types.Goals as goal

pub returns-clause-under : goal.returns-clause-under
returns-clause-under c = lead_on

pub returns-clause-alike : goal.returns-clause-alike
returns-clause-alike c = stand_alike
