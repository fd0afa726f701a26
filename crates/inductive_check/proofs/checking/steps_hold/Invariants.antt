use Rattle.std.proofs.Common.{◌≡◌}
use Rattle.inductive_check.specs.Certificates.{step_base, step_last}
use Rattle.inductive_check.proofs.LogLemmas.{Left}
use Rattle.inductive_check.proofs.checking.steps_hold.Given as goal

abbrev pub invariant-loop-i : goal.invariant-loop-i
invariant-loop-i l = record {
  variables : l.marks.variables ≡ l.fn.marks.variables;
  left : Left (step_base l.system l.clauses) (step_last l.system l.clauses) l.clauses l.logs l.i;
}
