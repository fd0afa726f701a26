use Rattle.std.proofs.Common.{◌≡◌, ◌+◌, ◌-◌, length}
use Rattle.type_prefixes.specs.Summaries.{raised}
use Rattle.type_prefixes.proofs.depth.raise.Given as goal

abbrev pub invariant-loop-places : goal.invariant-loop-places
invariant-loop-places l = raised l.places l.at l.inside ≡ raised l.fn.places l.at l.inside

abbrev pub decreases-loop-places : goal.decreases-loop-places
decreases-loop-places l = (l.at + 1) - length l.places
