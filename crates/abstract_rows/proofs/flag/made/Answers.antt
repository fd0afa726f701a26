use Rattle.abstract_rows.proofs.FlagLemmas.{whole_as}
use Rattle.abstract_rows.proofs.flag.made.Goals as goal

pub make-requires-clause-whole : goal.make-requires-clause-whole
make-requires-clause-whole c = whole_as c.in_ok-machine.machine c.in_ok-machine.ensures
