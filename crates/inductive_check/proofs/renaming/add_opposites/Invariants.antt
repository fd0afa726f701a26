use Rattle.std.proofs.Common.{◌≡◌, ◌++◌, map, take}
use Rattle.clause_core.specs.Literal.{opposite}
use Rattle.inductive_check.proofs.renaming.add_opposites.Given as goal

abbrev pub invariant-loop-l : goal.invariant-loop-l
invariant-loop-l l = record {
  variables : l.marks.variables ≡ l.fn.marks.variables;
  units : l.marks.units ≡ l.fn.marks.units ++ map opposite (take l.l-index l.lits);
}
