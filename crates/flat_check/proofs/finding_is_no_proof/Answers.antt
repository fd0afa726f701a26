use Rattle.flat_check.proofs.SearchLemmas.{no_proof}
use Rattle.flat_check.proofs.finding_is_no_proof.Goals as goal

pub returns : goal.returns
returns c = no_proof
