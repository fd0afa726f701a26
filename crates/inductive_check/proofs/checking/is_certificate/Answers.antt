use Rattle.std.proofs.Common.{sym, subst}
use Rattle.std.specs.Prelude.{All, IsTrue}
use Rattle.inductive_check.specs.Certificates.{IsOwn}
use Rattle.inductive_check.proofs.LogLemmas.{own_as, starts_as, steps_as}
use Rattle.inductive_check.proofs.checking.is_certificate.Goals as goal

pub returns-then-not-are_own-clause-exact : goal.returns-then-not-are_own-clause-exact
returns-then-not-are_own-clause-exact c = (
  λ t. cc,
  λ h. subst IsTrue c.if-not-are_own.true (c.are_own.ensures.1 (own_as c.current.result.now c.args.system.now.current c.clauses-clauses.result.now c.args.c.now.clauses c.current.ensures.value c.clauses-clauses.ensures h.own)),
)

pub starts_hold-requires-clause-own : goal.starts_hold-requires-clause-own
starts_hold-requires-clause-own c = subst (λ ls. All (IsOwn ls) c.clauses-clauses.result.now) c.current.ensures.value (c.are_own.ensures.0 c.if-not-are_own.false)

pub steps_hold-requires-clause-own : goal.steps_hold-requires-clause-own
steps_hold-requires-clause-own c = subst (λ ls. All (IsOwn ls) c.clauses-clauses.result.now) c.current.ensures.value (c.are_own.ensures.0 c.if-not-are_own.false)

pub returns-then-not-starts_hold-clause-exact : goal.returns-then-not-starts_hold-clause-exact
returns-then-not-starts_hold-clause-exact c = (
  λ t. cc,
  λ h. subst IsTrue c.if-not-starts_hold.true (c.starts_hold.ensures.exact.1 (starts_as c.args.system.now c.clauses-clauses.result.now c.args.c.now.clauses c.starts.result.now c.args.c.now.starts c.clauses-clauses.ensures c.starts.ensures h.starts)),
)

pub returns-clause-exact : goal.returns-clause-exact
returns-clause-exact c = (
  λ t. record {
    own = own_as c.args.system.now.current c.current.result.now c.args.c.now.clauses c.clauses-clauses.result.now (sym c.current.ensures.value) (sym c.clauses-clauses.ensures) (c.are_own.ensures.0 c.if-not-are_own.false);
    starts = starts_as c.args.system.now c.args.c.now.clauses c.clauses-clauses.result.now c.args.c.now.starts c.starts.result.now (sym c.clauses-clauses.ensures) (sym c.starts.ensures) (c.starts_hold.ensures.exact.0 c.if-not-starts_hold.false);
    steps = steps_as c.args.system.now c.args.c.now.clauses c.clauses-clauses.result.now c.args.c.now.steps c.steps.result.now (sym c.clauses-clauses.ensures) (sym c.steps.ensures) (c.steps_hold.ensures.exact.0 t);
  },
  λ h. c.steps_hold.ensures.exact.1 (steps_as c.args.system.now c.clauses-clauses.result.now c.args.c.now.clauses c.steps.result.now c.args.c.now.steps c.clauses-clauses.ensures c.steps.ensures h.steps),
)
