use Rattle.typed_laws.proofs.RenamedBodies.{values_renamed, endings_renamed}
use Rattle.typed_laws.proofs.laws.nodes_may_change_places.Goals as goal

pub returns-clause-values : goal.returns-clause-values
returns-clause-values c = values_renamed

pub returns-clause-endings : goal.returns-clause-endings
returns-clause-endings c = endings_renamed
