use Rattle.std.proofs.Common.{◌≡◌, drop}
use Rattle.type_items.specs.Rulesets.{list_binds}
use Rattle.type_items.proofs.rulesets.enter.Given as goal

abbrev pub invariant-loop-one : goal.invariant-loop-one
invariant-loop-one l = list_binds (drop l.one-index l.binds) l.inside ≡ list_binds l.binds l.fn.inside
