use Rattle.std.proofs.Common.{◌≡◌, ◌++◌, drop}
use Rattle.rule_inline.specs.Tables.{lifted_all}
use Rattle.rule_terms.proofs.build.lift_all.Given as goal

abbrev pub invariant-loop-one : goal.invariant-loop-one
invariant-loop-one l = l.out ++ lifted_all l.frame l.more (drop l.one-index l.all) ≡ lifted_all l.frame l.more l.all
