use Rattle.std.proofs.Common.{◌≡◌, ◌+◌, ◌≤◌, length, drop, filter}
use Rattle.murphi_ast.specs.Title.{is_of}
use Rattle.cmp_cli.specs.Titles.{kind_of}
use Rattle.cmp_cli.proofs.titles.count.Given as goal

-- those that are left make up the whole, and no item was counted twice
abbrev pub invariant-loop-item : goal.invariant-loop-item
invariant-loop-item l = record {
  left : l.count + length (filter (is_of (kind_of l.kind)) (drop l.item-index l.items)) ≡ length (filter (is_of (kind_of l.fn.kind)) l.fn.items);
  within : l.count ≤ l.item-index;
}
