use Rattle.std.proofs.Common.{ℕ, Bool, ◌≡◌, true}
use Rattle.cnf_emit.specs.Reach.{is_marked, IsClosedFrom, IsClosedSet, IsWithin}
use Rattle.cnf_emit.proofs.reach.mark_below.Given as goal

abbrev pub invariant-loop-i : goal.invariant-loop-i
invariant-loop-i l = record {
  kept : (n : ℕ) → is_marked l.fn.marks n ≡ true → is_marked l.marks n ≡ true;
  closed : IsClosedFrom l.i l.gates l.marks;
  within : (p : ℕ → Bool) → IsClosedSet l.gates p → IsWithin l.fn.marks p → IsWithin l.marks p;
}
