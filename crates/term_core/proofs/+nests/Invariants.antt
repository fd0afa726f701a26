use Rattle.std.proofs.Common.{◌≡◌, drop}
use Rattle.std.specs.Prelude.{nat_le}
use Rattle.term_core.specs.Lists.{list_nesting}
use Rattle.term_core.proofs.+nests.Given as goal

abbrev pub invariant-variables::all_nest-loop-one : goal.invariant-variables::all_nest-loop-one
invariant-variables::all_nest-loop-one l = nat_le (list_nesting (drop l.one-index l.all)) l.depth ≡ nat_le (list_nesting l.all) l.depth
