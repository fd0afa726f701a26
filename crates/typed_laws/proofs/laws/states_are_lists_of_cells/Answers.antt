use Rattle.typed_laws.proofs.ListingLemmas.{cells_have_places, changes_are_listed}
use Rattle.typed_laws.proofs.laws.states_are_lists_of_cells.Goals as goal

pub returns-clause-places : goal.returns-clause-places
returns-clause-places c = cells_have_places

pub returns-clause-changes : goal.returns-clause-changes
returns-clause-changes c = changes_are_listed
