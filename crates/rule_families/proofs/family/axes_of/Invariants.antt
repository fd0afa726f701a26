use Rattle.std.proofs.Common.{◌≡◌, ◌++◌, map, drop}
use Rattle.murphi_typed.specs.Families.{axes_of}
use Rattle.rule_parts.specs.Seen.{seen_step}
use Rattle.rule_families.proofs.family.axes_of.Given as goal

abbrev pub invariant-loop-step : goal.invariant-loop-step
invariant-loop-step l = l.out ++ axes_of (map seen_step (drop l.step-index l.steps)) ≡ axes_of (map seen_step l.steps)
