use Rattle.std.proofs.Common.{◌≡◌, true}
use Rattle.std.specs.List.{AllWithin}
use Rattle.sat_solver.specs.Assigned.{literals_of, is_false}
use Rattle.sat_solver.proofs.scan.spare.Given as goal

abbrev pub invariant-loop-i : goal.invariant-loop-i
invariant-loop-i l = AllWithin (λ k. is_false (literals_of l.trail.entries) k ≡ true) l.lits 2 l.i
