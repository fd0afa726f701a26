use Rattle.typing_laws.proofs.KeptItems.{items, lists}
use Rattle.typing_laws.proofs.laws.items_declare_nothing.Goals as goal

pub returns-clause-items : goal.returns-clause-items
returns-clause-items c = items

pub returns-clause-lists : goal.returns-clause-lists
returns-clause-lists c = lists
