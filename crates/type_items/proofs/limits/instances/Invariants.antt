use Rattle.std.proofs.Common.{◌≡◌, ◌*◌, drop}
use Rattle.murphi_types.specs.Weights.{stopped}
use Rattle.murphi_types.specs.Items.{instances}
use Rattle.type_items.proofs.limits.instances.Given as goal

abbrev pub invariant-loop-one : goal.invariant-loop-one
invariant-loop-one l =
    (stopped (l.count * instances (drop l.one-index l.params)) ≡ stopped (instances l.params)) × (stopped l.count ≡ l.count)
