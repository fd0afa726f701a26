use Rattle.std.proofs.Common.{◌≡◌, ◌-◌, ◌++◌, map}
use Rattle.term_core.specs.declared.term.Term as t
use Rattle.term_core.specs.Nodes.{nodes_from}
use Rattle.lemma_strengthen.specs.Opening.{variables}
use Rattle.lemma_strengthen.proofs.normal.first_variables.Given as goal

abbrev pub invariant-loop-number : goal.invariant-loop-number
invariant-loop-number l = l.out ++ map (λ k. t.Var k) (nodes_from l.number (l.count - l.number)) ≡ variables l.count
