use Rattle.abstract_replay.proofs.PathLemmas.{is_empty, is_some, first_is, last_at}
use Rattle.abstract_replay.proofs.replaying.last_state.Goals as goal

pub returns-then-is_empty : goal.returns-then-is_empty
returns-then-is_empty c = first_is _ _ (is_empty _ _ c.is_empty.ensures c.if-is_empty.true)

pub returns : goal.returns
returns c = last_at _ _ _ (is_some _ _ c.is_empty.ensures c.if-is_empty.false) c.index-steps-steps.is
