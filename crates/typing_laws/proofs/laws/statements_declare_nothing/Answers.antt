use Rattle.typing_laws.proofs.KeptItems.{statements, bodies}
use Rattle.typing_laws.proofs.laws.statements_declare_nothing.Goals as goal

pub returns-clause-statements : goal.returns-clause-statements
returns-clause-statements c = statements

pub returns-clause-bodies : goal.returns-clause-bodies
returns-clause-bodies c = bodies
