use Rattle.type_names.proofs.ScopeLemmas.{repeats-are}
use Rattle.type_names.proofs.laws.repeats_are_found.Goals as goal

pub returns : goal.returns
returns c = repeats-are
