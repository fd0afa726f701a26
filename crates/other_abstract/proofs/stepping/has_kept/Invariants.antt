use Rattle.std.proofs.Common.{◌≡◌, drop}
use Rattle.std.specs.List.{list_any}
use Rattle.other_abstract.specs.Windows.{same_value}
use Rattle.other_abstract.specs.Machines.{read_kept}
use Rattle.other_abstract.proofs.stepping.has_kept.Given as goal

abbrev pub invariant-loop-value : goal.invariant-loop-value
invariant-loop-value l =
    list_any (λ x. same_value (read_kept x) l.wanted) (drop l.value-index l.values) ≡ list_any (λ x. same_value (read_kept x) l.wanted) l.values
