use Rattle.rule_inline.proofs.Samples.{copies, link, mutex, calls, mixed}
use Rattle.rule_inline.proofs.laws.worked_cases.Goals as goal

pub returns-clause-copies : goal.returns-clause-copies
returns-clause-copies c = copies

pub returns-clause-link : goal.returns-clause-link
returns-clause-link c = link

pub returns-clause-mutex : goal.returns-clause-mutex
returns-clause-mutex c = mutex

pub returns-clause-calls : goal.returns-clause-calls
returns-clause-calls c = calls

pub returns-clause-mixed : goal.returns-clause-mixed
returns-clause-mixed c = mixed
