use Rattle.std.proofs.Common.{sym, subst}
use Rattle.inductive_check.specs.Certificates.{IsOwn, start_base, start_last}
use Rattle.inductive_check.proofs.LogLemmas.{logs_count}
use Rattle.inductive_check.proofs.checking.starts_hold.Goals as goal

pub returns-then-logs-clauses-clause-exact : goal.returns-then-logs-clauses-clause-exact
returns-then-logs-clauses-clause-exact c = (
  λ t. cc,
  λ h. absurd (c.if-logs-clauses.true (logs_count (start_base c.args.system.now) (start_last c.args.system.now) c.args.clauses.now c.args.logs.now h)),
)

pub starts_satisfy-requires-clause-own : goal.starts_satisfy-requires-clause-own
starts_satisfy-requires-clause-own c = subst (IsOwn c.args.system.now.current) (sym c.index-clauses-i.is) (c.requires.own c.loop-i.i c.index-clauses-i.result c.loop-i-test.true)
