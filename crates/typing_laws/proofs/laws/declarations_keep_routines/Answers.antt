use Rattle.typing_laws.proofs.KeptItems.{declarations, locals}
use Rattle.typing_laws.proofs.laws.declarations_keep_routines.Goals as goal

pub returns-clause-declarations : goal.returns-clause-declarations
returns-clause-declarations c = declarations

pub returns-clause-locals : goal.returns-clause-locals
returns-clause-locals c = locals
