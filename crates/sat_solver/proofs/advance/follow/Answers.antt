use Rattle.std.proofs.Common.{length, subst, sym, ap, arith, length-append}
use Rattle.sat_solver.specs.Searching.{AreTrue}
use Rattle.sat_solver.proofs.DecideLemmas.{decided_grows, reasons_grow, true_more}
use Rattle.sat_solver.proofs.advance.follow.Goals as goal

pub returns-clause-decided : goal.returns-clause-decided
returns-clause-decided c =
    decided_grows (length c.args.known.now.given.now) (length c.args.known.now.chains.now) c.args.assumptions.now c.args.trail.now.entries c.propagate.new.trail.entries c.requires.decided c.propagate.ensures.grows

pub returns-clause-reasons : goal.returns-clause-reasons
returns-clause-reasons c =
    reasons_grow (length c.args.known.now.given.now) (length c.args.known.now.chains.now) c.args.trail.now.entries c.propagate.new.trail.entries c.requires.reasons c.propagate.ensures.grows

pub returns-clause-kept : goal.returns-clause-kept
returns-clause-kept c lits h = subst (λ es. AreTrue es lits) (sym c.propagate.ensures.grows.1) (true_more c.args.trail.now.entries c.propagate.ensures.grows.0 lits h)

pub returns-clause-longer : goal.returns-clause-longer
returns-clause-longer c = omega (arith, ap length c.propagate.ensures.grows.1, length-append c.args.trail.now.entries c.propagate.ensures.grows.0)
