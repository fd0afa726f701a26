use Rattle.abstract_replay.proofs.PathLemmas.{ends_single}
use Rattle.abstract_replay.proofs.laws.ends_are_single.Goals as goal

pub returns : goal.returns
returns c = ends_single
