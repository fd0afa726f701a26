use Rattle.std.proofs.Common.{◌≡◌, ◌++◌, map, drop}
use Rattle.rule_inline.specs.Tables.{dropped}
use Rattle.rule_terms.specs.Steps.{list_without}
use Rattle.rule_terms.proofs.dropped.+dropped.Given as goal

abbrev pub invariant-dropped_all-loop-one : goal.invariant-dropped_all-loop-one
invariant-dropped_all-loop-one l = l.out ++ map (dropped l.pair.axis l.pair.variable) (drop l.one-index l.all) ≡ map (dropped l.pair.axis l.pair.variable) l.all

abbrev pub invariant-without-loop-one : goal.invariant-without-loop-one
invariant-without-loop-one l = l.out ++ list_without l.pair.axis l.pair.variable (drop l.one-index l.all) ≡ list_without l.pair.axis l.pair.variable l.all
