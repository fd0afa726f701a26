use Rattle.std.proofs.Common.{take}
use Rattle.std.specs.Prelude.{All}
use Rattle.inductive_check.specs.Certificates.{IsOwn}
use Rattle.inductive_check.proofs.owning.are_own.Given as goal

abbrev pub invariant-loop-clause : goal.invariant-loop-clause
invariant-loop-clause l = All (IsOwn l.lits) (take l.clause-index l.clauses)
