use Rattle.std.proofs.Common.{◌∙◌, ap}
use Rattle.abstract_replay.specs.Paths.{state_after}
use Rattle.abstract_replay.proofs.PathLemmas.{clean_in}
use Rattle.abstract_replay.proofs.replaying.judged.Goals as goal

pub judged_start-requires-clause-clean : goal.judged_start-requires-clause-clean
judged_start-requires-clause-clean c =
    clean_in _ c.args.path.now _ _ (c.last_state-last.ensures ∙ ap (state_after c.args.path.now.first.values) c.as_slice.ensures)
    c.in-None.is c.in_ok-violated.ensures
