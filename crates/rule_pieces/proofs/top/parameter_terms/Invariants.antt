use Rattle.std.proofs.Common.{◌≡◌, ◌++◌, drop}
use Rattle.rule_inline.specs.Machine.{parameter_terms}
use Rattle.rule_pieces.proofs.top.parameter_terms.Given as goal

abbrev pub invariant-loop-part : goal.invariant-loop-part
invariant-loop-part l = l.out ++ parameter_terms l.next (drop l.part-index l.key) ≡ parameter_terms 0 l.key
