use Rattle.std.proofs.Common.{◌≡◌, take}
use Rattle.murphi_ast.proofs.expr.+copy_expr.Given as goal

abbrev pub invariant-copy_exprs-loop-one : goal.invariant-copy_exprs-loop-one
invariant-copy_exprs-loop-one l = l.out ≡ take l.one-index l.all

abbrev pub invariant-copy_fields-loop-one : goal.invariant-copy_fields-loop-one
invariant-copy_fields-loop-one l = l.out ≡ take l.one-index l.all

abbrev pub invariant-copy_links-loop-one : goal.invariant-copy_links-loop-one
invariant-copy_links-loop-one l = l.out ≡ take l.one-index l.all

abbrev pub invariant-copy_selectors-loop-one : goal.invariant-copy_selectors-loop-one
invariant-copy_selectors-loop-one l = l.out ≡ take l.one-index l.all
