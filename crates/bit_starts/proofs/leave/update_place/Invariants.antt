use Rattle.std.proofs.Common.{◌≡◌, drop}
use Rattle.term_core.specs.Firing.{update_for}
use Rattle.bit_starts.proofs.leave.update_place.Given as goal

abbrev pub invariant-loop-at : goal.invariant-loop-at
invariant-loop-at l = update_for (drop l.at l.updates) l.family ≡ update_for l.updates l.family
