use Rattle.std.proofs.Common.{◌≡◌, map, length}
use Rattle.rule_terms.specs.Gathered.{seen_demands}
use Rattle.rule_forms.specs.Seen.{seen_valued}
use Rattle.rule_forms.specs.Words.{label_demands, label_demands_to}
use Rattle.rule_forms.proofs.branch.label_demands.Given as goal

abbrev pub invariant-loop-label : goal.invariant-loop-label
invariant-loop-label l = label_demands_to l.frame l.on (map seen_valued l.left) (seen_demands l.out) ≡ label_demands l.frame l.on (map seen_valued l.fn.all)

abbrev pub decreases-loop-label : goal.decreases-loop-label
decreases-loop-label l = length l.left
