use Rattle.std.proofs.Common.{sym, subst, length}
use Rattle.sat_solver.specs.Assigned.{Path}
use Rattle.sat_solver.specs.Searching.{IsDecided}
use Rattle.sat_solver.proofs.DecideLemmas.{decided_grows, decided_facts}
use Rattle.sat_solver.proofs.search.prepare.Goals as goal

pub returns-clause-decided : goal.returns-clause-decided
returns-clause-decided c =
    decided_grows (length c.clauses.result.now) (length c.items.result.now) c.args.assumptions.now c.attach_new.new.engine.trail.entries c.settle_each.new.trail.entries
    (subst (λ (p : Path). IsDecided c.args.assumptions.now p.entries) (sym c.attach_new.ensures.trail) (decided_facts c.args.assumptions.now c.keep_facts.new.self.entries c.keep_facts.ensures.reasons))
    c.in_ok-conflict.ensures.grows
