use Rattle.std.proofs.Common.{◌≡◌, ◌+◌, ◌≤◌, ◌-◌, ◌^◌, drop}
use Rattle.other_abstract.specs.Making.{counted}
use Rattle.other_abstract.proofs.MakingLemmas.{count_sum}
use Rattle.other_abstract.proofs.making.count_cells.Given as goal

abbrev pub invariant-loop-family : goal.invariant-loop-family
invariant-loop-family l =
    (counted (l.sum + count_sum l.nodes (drop l.family-index l.families)) ≡ counted (count_sum l.nodes l.families))
    × (l.sum ≤ 2 ^ 64 - 1)
