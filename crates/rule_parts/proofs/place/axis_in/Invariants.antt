use Rattle.std.proofs.Common.{◌≡◌, drop}
use Rattle.rule_inline.specs.Tables.{axis_in}
use Rattle.rule_parts.specs.Steps.{axis_from}
use Rattle.rule_parts.proofs.place.axis_in.Given as goal

abbrev pub invariant-loop-mark : goal.invariant-loop-mark
invariant-loop-mark l = axis_from l.passed l.variable (drop l.mark-index l.marks) ≡ axis_in l.variable l.marks
