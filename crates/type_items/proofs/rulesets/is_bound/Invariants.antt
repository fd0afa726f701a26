use Rattle.std.proofs.Common.{◌≡◌, drop}
use Rattle.type_items.specs.Rulesets.{is_bound}
use Rattle.type_items.proofs.rulesets.is_bound.Given as goal

abbrev pub invariant-loop-one : goal.invariant-loop-one
invariant-loop-one l = is_bound (drop l.one-index l.binds) l.name ≡ is_bound l.binds l.name
