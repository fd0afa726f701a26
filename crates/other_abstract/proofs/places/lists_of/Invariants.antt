use Rattle.std.proofs.Common.{◌≡◌}
use Rattle.other_abstract.specs.Tests.{lists_of}
use Rattle.other_abstract.proofs.places.lists_of.Given as goal

abbrev pub invariant-loop-step : goal.invariant-loop-step
invariant-loop-step l = l.out.items ≡ lists_of l.nodes l.step
