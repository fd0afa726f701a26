use Rattle.std.proofs.Common.{◌≡◌, drop}
use Rattle.std.specs.List.{list_any}
use Rattle.other_abstract.specs.Windows.{same_value}
use Rattle.other_abstract.specs.Lists.{window_in}
use Rattle.other_abstract.specs.Machines.{read_kept, settled}
use Rattle.other_abstract.proofs.starting.has_settled.Given as goal

abbrev pub invariant-loop-value : goal.invariant-loop-value
invariant-loop-value l =
    list_any (λ x. same_value (settled (window_in l.kept) l.family (read_kept x)) l.wanted) (drop l.value-index l.values)
    ≡ list_any (λ x. same_value (settled (window_in l.kept) l.family (read_kept x)) l.wanted) l.values
