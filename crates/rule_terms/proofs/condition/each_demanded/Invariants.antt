use Rattle.std.proofs.Common.{◌≡◌, ◌++◌, map, drop}
use Rattle.rule_inline.specs.Demands.{demand}
use Rattle.rule_terms.specs.Gathered.{seen_demands}
use Rattle.rule_terms.proofs.condition.each_demanded.Given as goal

abbrev pub invariant-loop-test : goal.invariant-loop-test
invariant-loop-test l = seen_demands l.out ++ map demand (drop l.test-index l.tests) ≡ seen_demands l.fn.front ++ map demand l.tests
