use Rattle.std.proofs.Common.{◌≡◌, ◌++◌, map, take}
use Rattle.clause_core.specs.Literal.{opposite}
use Rattle.inductive_check.specs.Certificates.{renamed as renamed_literal}
use Rattle.inductive_check.proofs.renaming.add_renamed.Given as goal

abbrev pub invariant-loop-l : goal.invariant-loop-l
invariant-loop-l l = record {
  variables : l.marks.variables ≡ l.fn.marks.variables;
  units : l.marks.units ≡ l.fn.marks.units ++ map opposite (map (renamed_literal l.current l.next) (take l.l-index l.lits));
}
