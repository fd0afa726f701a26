use Rattle.std.proofs.Common.{◌≤◌, ◌-◌, length, ℕ}
use Rattle.job_files.specs.Items.{EventsSoFar}
use Rattle.job_files.proofs.item.more_events.Given as goal

abbrev pub invariant-loop-alloc : goal.invariant-loop-alloc
invariant-loop-alloc l = record {
  so_far : EventsSoFar l.fn.front l.tokens l.at l.next l.events;
  on : l.at ≤ l.next;
  within : l.next ≤ length l.tokens;
}

abbrev pub decreases-loop-alloc : goal.decreases-loop-alloc
decreases-loop-alloc l = length l.tokens - l.next
