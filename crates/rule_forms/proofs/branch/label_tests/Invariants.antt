use Rattle.std.proofs.Common.{◌≡◌, ◌++◌, map, drop}
use Rattle.rule_forms.specs.Seen.{seen_valued}
use Rattle.rule_forms.specs.Words.{label_tests}
use Rattle.rule_forms.proofs.branch.label_tests.Given as goal

abbrev pub invariant-loop-label : goal.invariant-loop-label
invariant-loop-label l = l.out ++ label_tests l.on (map seen_valued (drop l.label-index l.all)) ≡ label_tests l.on (map seen_valued l.all)
