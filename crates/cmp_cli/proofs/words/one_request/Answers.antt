use Rattle.cmp_cli.proofs.ReadingLemmas.{same_request}
use Rattle.cmp_cli.proofs.words.one_request.Goals as goal

pub returns : goal.returns
returns c = same_request
