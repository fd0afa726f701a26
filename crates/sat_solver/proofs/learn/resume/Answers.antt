use Rattle.std.proofs.Common.{◌∙◌, ap, length}
use Rattle.sat_solver.proofs.DecideLemmas.{decided_grows, decided_prefix, reasons_grow, reasons_prefix}
use Rattle.sat_solver.proofs.SolverLemmas.{grows_at}
use Rattle.sat_solver.proofs.learn.resume.Goals as goal

pub returns-in_err-go_back-clause-decided : goal.returns-in_err-go_back-clause-decided
returns-in_err-go_back-clause-decided c = decided_prefix c.args.assumptions.now c.go_back.new.trail.entries c.args.engine.now.trail.entries c.requires.decided c.go_back.ensures.prefix

pub returns-in_err-attach-clause-decided : goal.returns-in_err-attach-clause-decided
returns-in_err-attach-clause-decided c = decided_prefix c.args.assumptions.now c.go_back.new.trail.entries c.args.engine.now.trail.entries c.requires.decided c.go_back.ensures.prefix

pub returns-in_err-settle-clause-decided : goal.returns-in_err-settle-clause-decided
returns-in_err-settle-clause-decided c =
    decided_grows (length c.clauses.result.now) (length c.items-2.result.now) c.args.assumptions.now c.go_back.new.trail.entries c.settle.new.trail.entries
    (decided_prefix c.args.assumptions.now c.go_back.new.trail.entries c.args.engine.now.trail.entries c.requires.decided c.go_back.ensures.prefix) c.in_err-settle.ensures.grows

pub returns-clause-decided : goal.returns-clause-decided
returns-clause-decided c =
    decided_grows (length c.clauses.result.now) (length c.items-2.result.now) c.args.assumptions.now c.go_back.new.trail.entries c.settle.new.trail.entries
    (decided_prefix c.args.assumptions.now c.go_back.new.trail.entries c.args.engine.now.trail.entries c.requires.decided c.go_back.ensures.prefix) c.in_ok-settle.ensures.grows

pub returns-in_err-settle-clause-solver : goal.returns-in_err-settle-clause-solver
returns-in_err-settle-clause-solver c =
    let s = c.requires.solver in
    record {
      derivation = s.derivation;
      usable = s.usable;
      fits = record { trail = c.in_err-settle.ensures.variables ∙ c.go_back.ensures.variables ∙ s.fits.trail; marks = s.fits.marks; arena = c.attach.ensures ∙ s.fits.arena };
      reasons = reasons_grow (length c.args.cnf.now.clauses) (length c.args.log.now) c.go_back.new.trail.entries c.settle.new.trail.entries
          (reasons_prefix (length c.args.cnf.now.clauses) (length c.args.log.now) c.go_back.new.trail.entries c.args.engine.now.trail.entries s.reasons c.go_back.ensures.prefix)
          (grows_at (length c.clauses.result.now) (length c.items-2.result.now) (length c.args.cnf.now.clauses) (length c.args.log.now) c.go_back.new.trail.entries c.settle.new.trail.entries (ap length c.clauses.ensures.items) (ap length c.items-2.ensures) c.in_err-settle.ensures.grows);
    }

pub returns-clause-solver : goal.returns-clause-solver
returns-clause-solver c =
    let s = c.requires.solver in
    record {
      derivation = s.derivation;
      usable = s.usable;
      fits = record { trail = c.in_ok-settle.ensures.variables ∙ c.go_back.ensures.variables ∙ s.fits.trail; marks = s.fits.marks; arena = c.attach.ensures ∙ s.fits.arena };
      reasons = reasons_grow (length c.args.cnf.now.clauses) (length c.args.log.now) c.go_back.new.trail.entries c.settle.new.trail.entries
          (reasons_prefix (length c.args.cnf.now.clauses) (length c.args.log.now) c.go_back.new.trail.entries c.args.engine.now.trail.entries s.reasons c.go_back.ensures.prefix)
          (grows_at (length c.clauses.result.now) (length c.items-2.result.now) (length c.args.cnf.now.clauses) (length c.args.log.now) c.go_back.new.trail.entries c.settle.new.trail.entries (ap length c.clauses.ensures.items) (ap length c.items-2.ensures) c.in_ok-settle.ensures.grows);
    }
