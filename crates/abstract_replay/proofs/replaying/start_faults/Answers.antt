use Rattle.std.proofs.Common.{◌≡◌, length, subst, ◌<◌}
use Rattle.abstract_replay.proofs.PathLemmas.{is_empty, is_some, start_there, long_there}
use Rattle.abstract_replay.proofs.replaying.start_faults.Goals as goal

pub returns-then-not-is_empty : goal.returns-then-not-is_empty
returns-then-not-is_empty c =
    long_there _ _ (subst (λ xs. 0 < length xs) c.as_slice.ensures (is_some _ _ c.is_empty.ensures c.if-not-is_empty.true))

pub returns : goal.returns
returns c =
    start_there _ _ _ (subst (λ xs. length xs ≡ 0) c.as_slice.ensures (is_empty _ _ c.is_empty.ensures c.if-not-is_empty.false))
    c.requires.start c.in_ok-faults.ensures
