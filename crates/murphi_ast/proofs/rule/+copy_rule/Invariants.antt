use Rattle.std.proofs.Common.{◌≡◌, take}
use Rattle.murphi_ast.proofs.rule.+copy_rule.Given as goal

abbrev pub invariant-copy_rules-loop-one : goal.invariant-copy_rules-loop-one
invariant-copy_rules-loop-one l = l.out ≡ take l.one-index l.all
