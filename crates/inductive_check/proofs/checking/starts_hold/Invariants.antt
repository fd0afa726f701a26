use Rattle.std.proofs.Common.{◌≡◌}
use Rattle.inductive_check.specs.Certificates.{start_base, start_last}
use Rattle.inductive_check.proofs.LogLemmas.{Left}
use Rattle.inductive_check.proofs.checking.starts_hold.Given as goal

abbrev pub invariant-loop-i : goal.invariant-loop-i
invariant-loop-i l = record {
  variables : l.marks.variables ≡ l.fn.marks.variables;
  left : Left (start_base l.system) (start_last l.system) l.clauses l.logs l.i;
}
