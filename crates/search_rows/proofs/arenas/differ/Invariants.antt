use Rattle.std.proofs.Common.{take}
use Rattle.clause_core.specs.Members.{NoneTwice}
use Rattle.search_rows.proofs.arenas.differ.Given as goal

abbrev pub invariant-loop-i : goal.invariant-loop-i
invariant-loop-i l = NoneTwice (take l.i l.lits)
