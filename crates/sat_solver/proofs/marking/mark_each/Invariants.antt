use Rattle.std.proofs.Common.{◌≡◌, ◌||◌, take}
use Rattle.clause_core.specs.declared.literal.Lit.{Lit}
use Rattle.clause_core.specs.Members.{has}
use Rattle.clause_derivation.specs.Marking.{mark_of, AreWithin}
use Rattle.sat_solver.proofs.marking.mark_each.Given as goal

abbrev pub invariant-loop-l : goal.invariant-loop-l
invariant-loop-l l = record {
  within : AreWithin l.marked l.touched.items;
  marks : (k : Lit) → mark_of l.marked k ≡ (mark_of l.fn.marked k || has (take l.l-index l.lits) k);
}
