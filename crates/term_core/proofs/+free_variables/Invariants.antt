use Rattle.std.proofs.Common.{◌≡◌, drop, max}
use Rattle.term_core.specs.Lists.{list_variables}
use Rattle.term_core.proofs.+free_variables.Given as goal

abbrev pub invariant-variables::most_variables-loop-one :
    goal.invariant-variables::most_variables-loop-one
invariant-variables::most_variables-loop-one l = max l.most (list_variables (drop l.one-index l.all)) ≡ list_variables l.all
