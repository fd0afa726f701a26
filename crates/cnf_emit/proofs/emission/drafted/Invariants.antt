use Rattle.std.proofs.Common.{◌≡◌, ◌+◌, ◌≤◌, ℕ, Bool, length, take}
use Rattle.cnf_emit.specs.Encoding.{Encodes}
use Rattle.cnf_emit.specs.Reach.{IsWithin, own_variables, own_clauses}
use Rattle.cnf_emit.proofs.emission.drafted.Given as goal

abbrev pub invariant-loop-i : goal.invariant-loop-i
invariant-loop-i l = record {
  encodes : Encodes l.c l.marks l.draft;
  nodes : length l.draft.lits ≡ l.i + 1;
  few : (p : ℕ → Bool) → IsWithin l.marks p → l.draft.variables ≤ l.c.inputs + own_variables p (take l.i l.gate-items);
  short : (p : ℕ → Bool) → IsWithin l.marks p → length l.draft.clauses ≤ own_clauses p (take l.i l.gate-items);
}
