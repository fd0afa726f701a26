use Rattle.std.proofs.Common.{◌≡◌, drop}
use Rattle.std.specs.Str.{bytes_eq}
use Rattle.murphi_typed.specs.Store.{beyond}
use Rattle.rule_parts.proofs.fit.is_front.Given as goal

abbrev pub invariant-loop-at : goal.invariant-loop-at
invariant-loop-at l = beyond bytes_eq (drop l.at l.front) (drop l.at l.all) ≡ beyond bytes_eq l.front l.all
