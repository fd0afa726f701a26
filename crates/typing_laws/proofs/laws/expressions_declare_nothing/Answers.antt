use Rattle.typing_laws.proofs.KeptItems.{expressions, types, places, arguments}
use Rattle.typing_laws.proofs.laws.expressions_declare_nothing.Goals as goal

pub returns-clause-expressions : goal.returns-clause-expressions
returns-clause-expressions c = expressions

pub returns-clause-types : goal.returns-clause-types
returns-clause-types c = types

pub returns-clause-places : goal.returns-clause-places
returns-clause-places c = places

pub returns-clause-arguments : goal.returns-clause-arguments
returns-clause-arguments c = arguments
