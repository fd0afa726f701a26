use Rattle.std.proofs.Common.{◌≡◌, drop}
use Rattle.term_core.specs.Firing.{update_for}
use Rattle.other_abstract.proofs.stepping.updated.Given as goal

abbrev pub invariant-loop-update : goal.invariant-loop-update
invariant-loop-update l = update_for (drop l.update-index l.updates) l.place.family ≡ update_for l.updates l.place.family
