use Rattle.std.proofs.Common.{sym, subst}
use Rattle.inductive_check.specs.Certificates.{IsOwn, step_base, step_last}
use Rattle.inductive_check.proofs.LogLemmas.{logs_count}
use Rattle.inductive_check.proofs.checking.steps_hold.Goals as goal

pub returns-then-logs-clauses-clause-exact : goal.returns-then-logs-clauses-clause-exact
returns-then-logs-clauses-clause-exact c = (
  λ t. cc,
  λ h. absurd (c.if-logs-clauses.true (logs_count (step_base c.args.system.now c.args.clauses.now) (step_last c.args.system.now c.args.clauses.now) c.args.clauses.now c.args.logs.now h)),
)

pub steps_keep-requires-clause-own : goal.steps_keep-requires-clause-own
steps_keep-requires-clause-own c = subst (IsOwn c.args.system.now.current) (sym c.index-clauses-i.is) (c.requires.own c.loop-i.i c.index-clauses-i.result c.loop-i-test.true)
