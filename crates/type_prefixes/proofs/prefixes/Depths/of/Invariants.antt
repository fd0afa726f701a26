use Rattle.std.proofs.Common.{◌≡◌, [], drop}
use Rattle.type_prefixes.specs.Walks.{with_summaries}
use Rattle.type_prefixes.proofs.prefixes.Depths.of.Given as goal

abbrev pub invariant-loop-one : goal.invariant-loop-one
invariant-loop-one l = with_summaries l.all (drop l.one-index l.routines) ≡ with_summaries [] l.routines
