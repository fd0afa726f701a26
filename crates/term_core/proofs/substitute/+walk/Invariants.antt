use Rattle.std.proofs.Common.{◌≡◌, ◌++◌, drop, map}
use Rattle.term_core.specs.Substitution.{replaced}
use Rattle.term_core.proofs.substitute.+walk.Given as goal

abbrev pub invariant-walk_all-loop-one : goal.invariant-walk_all-loop-one
invariant-walk_all-loop-one g l = l.out ++ map (replaced (g.R.Replacement.rule l.by) l.under) (drop l.one-index l.all) ≡ map (replaced (g.R.Replacement.rule l.by) l.under) l.all
