use Rattle.std.proofs.Common.{sym, subst}
use Rattle.clause_core.specs.Members.{NoneTwice}
use Rattle.sat_solver.proofs.search.attach_one.Goals as goal

pub attach-requires-clause-once : goal.attach-requires-clause-once
attach-requires-clause-once c = subst NoneTwice (sym c.make-c.ensures) c.in_ok-lits.ensures.once
