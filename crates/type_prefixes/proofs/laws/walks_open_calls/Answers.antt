use Rattle.type_prefixes.proofs.PrefixLemmas.{summaries-agree, own-is, own-body-is}
use Rattle.type_prefixes.proofs.laws.walks_open_calls.Goals as goal

pub returns-clause-calls : goal.returns-clause-calls
returns-clause-calls c = summaries-agree

pub returns-clause-expressions : goal.returns-clause-expressions
returns-clause-expressions c = own-is

pub returns-clause-bodies : goal.returns-clause-bodies
returns-clause-bodies c = own-body-is
