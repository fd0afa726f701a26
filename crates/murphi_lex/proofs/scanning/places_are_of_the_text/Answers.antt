use Rattle.murphi_lex.proofs.PlaceLemmas.{tokens_have_places, faults_have_places}
use Rattle.murphi_lex.proofs.scanning.places_are_of_the_text.Goals as goal

pub returns-clause-tokens : goal.returns-clause-tokens
returns-clause-tokens c = tokens_have_places

pub returns-clause-faults : goal.returns-clause-faults
returns-clause-faults c = faults_have_places
