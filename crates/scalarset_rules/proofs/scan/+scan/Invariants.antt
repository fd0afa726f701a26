use Rattle.std.proofs.Common.{◌≡◌, drop}
use Rattle.scalarset_rules.specs.Rules.{sooner}
use Rattle.scalarset_rules.specs.Scanning.{first_all, first_arms, first_cases}
use Rattle.scalarset_rules.proofs.scan.+scan.Given as goal

abbrev pub invariant-scan_all-loop-s : goal.invariant-scan_all-loop-s
invariant-scan_all-loop-s l = sooner l.first (first_all l.want l.inside (drop l.s-index l.body)) ≡ first_all l.want l.inside l.body

abbrev pub invariant-scan_arms-loop-arm : goal.invariant-scan_arms-loop-arm
invariant-scan_arms-loop-arm l = sooner l.first (first_arms l.want l.inside (drop l.arm-index l.arms)) ≡ first_arms l.want l.inside l.arms

abbrev pub invariant-scan_cases-loop-case : goal.invariant-scan_cases-loop-case
invariant-scan_cases-loop-case l = sooner l.first (first_cases l.want l.inside (drop l.case-index l.cases)) ≡ first_cases l.want l.inside l.cases
