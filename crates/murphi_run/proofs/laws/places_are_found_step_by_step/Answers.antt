use Rattle.murphi_run.proofs.PlaceLemmas.{under_itself, field_leads, item_leads, placed_under, placed_within, value_there, value_written, contents_there, contents_written}
use Rattle.murphi_run.proofs.laws.places_are_found_step_by_step.Goals as goal

pub returns-clause-itself : goal.returns-clause-itself
returns-clause-itself c = under_itself

pub returns-clause-fields : goal.returns-clause-fields
returns-clause-fields c = field_leads

pub returns-clause-indices : goal.returns-clause-indices
returns-clause-indices c = item_leads

pub returns-clause-under : goal.returns-clause-under
returns-clause-under c = placed_under

pub returns-clause-within : goal.returns-clause-within
returns-clause-within c = placed_within

pub returns-clause-values : goal.returns-clause-values
returns-clause-values c = value_there

pub returns-clause-value_written : goal.returns-clause-value_written
returns-clause-value_written c = value_written

pub returns-clause-contents : goal.returns-clause-contents
returns-clause-contents c = contents_there

pub returns-clause-contents_written : goal.returns-clause-contents_written
returns-clause-contents_written c = contents_written
