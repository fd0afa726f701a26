use Rattle.circuit_core.proofs.ChoiceLemmas.{grows_more}
use Rattle.circuit_core.proofs.EdgeLemmas.{keeps_same, keeps_more}
use Rattle.circuit_core.proofs.laws.growth_goes_on.Goals as goal

pub returns-clause-same : goal.returns-clause-same
returns-clause-same c = keeps_same

pub returns-clause-keeps : goal.returns-clause-keeps
returns-clause-keeps c = keeps_more

pub returns-clause-grows : goal.returns-clause-grows
returns-clause-grows c = grows_more
