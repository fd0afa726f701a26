use Rattle.std.proofs.Common.{◌≡◌, ◌≤◌, map, drop}
use Rattle.std.specs.Str.{bytes_eq}
use Rattle.murphi_typed.specs.Families.{path_of}
use Rattle.murphi_typed.specs.Steps.{same_list}
use Rattle.rule_parts.specs.Seen.{seen_step}
use Rattle.rule_parts.proofs.family.is_same_path.Given as goal

abbrev pub invariant-loop-step : goal.invariant-loop-step
invariant-loop-step l = (same_list bytes_eq (path_of (map seen_step (drop l.step-index l.steps))) (drop l.i l.path) ≡ same_list bytes_eq (path_of (map seen_step l.steps)) l.path) × (l.i ≤ l.step-index)
