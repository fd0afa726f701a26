use Rattle.typed_laws.proofs.Samples.{mutex, german}
use Rattle.typed_laws.proofs.laws.worked_cases.Goals as goal

pub returns-clause-mutex : goal.returns-clause-mutex
returns-clause-mutex c = mutex

pub returns-clause-german : goal.returns-clause-german
returns-clause-german c = german
