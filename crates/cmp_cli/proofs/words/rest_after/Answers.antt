use Rattle.cmp_cli.proofs.WordLemmas.{strip_is}
use Rattle.cmp_cli.proofs.words.rest_after.Goals as goal

pub returns : goal.returns
returns c = strip_is c.args.text.now c.args.word.now c.strip_prefix.result c.strip_prefix.ensures.cases
