use Rattle.std.proofs.Common.{sym, subst}
use Rattle.clause_core.specs.Members.{NoneTwice}
use Rattle.sat_solver.proofs.analyze.analyze.Goals as goal

pub returns-clause-once : goal.returns-clause-once
returns-clause-once c = subst NoneTwice (sym c.make-2.ensures) c.in_ok-learned.ensures.once
