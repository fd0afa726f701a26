use Rattle.translation_rows.proofs.Excluding.{places_excluded}
use Rattle.translation_rows.proofs.laws.places_are_not_found_anew.Goals as goal

pub returns : goal.returns
returns c = places_excluded
