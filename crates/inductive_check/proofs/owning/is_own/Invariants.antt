use Rattle.std.proofs.Common.{◌≡◌, true, take}
use Rattle.std.specs.Prelude.{All}
use Rattle.clause_core.specs.Members.{NoneTwice}
use Rattle.inductive_check.specs.Certificates.{is_over}
use Rattle.inductive_check.proofs.owning.is_own.Given as goal

abbrev pub invariant-loop-i : goal.invariant-loop-i
invariant-loop-i l = record {
  over : All (λ k. is_over l.lits k ≡ true) (take l.i l.clause);
  once : NoneTwice (take l.i l.clause);
}
