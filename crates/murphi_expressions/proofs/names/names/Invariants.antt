use Rattle.std.proofs.Common.{◌≤◌, ◌<◌, ◌-◌, length}
use Rattle.murphi_expressions.specs.Parts.{NamesSoFar}
use Rattle.murphi_expressions.proofs.names.names.Given as goal

abbrev pub invariant-loop-alloc : goal.invariant-loop-alloc
invariant-loop-alloc l = record {
  so_far : NamesSoFar l.tokens l.at l.next l.names;
  on : l.at < l.next;
  within : l.next ≤ length l.tokens;
}

abbrev pub decreases-loop-alloc : goal.decreases-loop-alloc
decreases-loop-alloc l = length l.tokens - l.next
