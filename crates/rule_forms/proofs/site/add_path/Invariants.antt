use Rattle.std.proofs.Common.{◌≡◌, ◌++◌, drop}
use Rattle.rule_forms.specs.Words.{list_path}
use Rattle.rule_forms.proofs.site.add_path.Given as goal

abbrev pub invariant-loop-selector : goal.invariant-loop-selector
invariant-loop-selector l = l.out ++ list_path (drop l.selector-index l.selectors) ≡ l.fn.front ++ list_path l.selectors
