use Rattle.std.proofs.Common.{◌≡◌, drop}
use Rattle.murphi_typed.specs.Steps.{same_list}
use Rattle.rule_inline.specs.Machine.{same_part}
use Rattle.rule_parts.proofs.family.is_same_key.Given as goal

abbrev pub invariant-loop-i : goal.invariant-loop-i
invariant-loop-i l = same_list same_part (drop l.i l.a) (drop l.i l.b) ≡ same_list same_part l.a l.b
