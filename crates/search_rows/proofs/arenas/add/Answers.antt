use Rattle.std.proofs.Common.{subst}
use Rattle.clause_core.specs.Members.{NoneTwice}
use Rattle.search_rows.proofs.arenas.add.Goals as goal

pub add-requires-clause-once : goal.add-requires-clause-once
add-requires-clause-once c = subst NoneTwice c.items-then-items-ge2.ensures (c.differ.ensures c.if-differ.true)
