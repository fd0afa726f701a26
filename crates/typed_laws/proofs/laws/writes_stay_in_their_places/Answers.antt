use Rattle.typed_laws.proofs.RegionLemmas.{writes_stay, assignments_stay}
use Rattle.typed_laws.proofs.laws.writes_stay_in_their_places.Goals as goal

pub returns-clause-bodies : goal.returns-clause-bodies
returns-clause-bodies c = writes_stay

pub returns-clause-targets : goal.returns-clause-targets
returns-clause-targets c = assignments_stay
