use Rattle.std.proofs.Common.{◌≡◌, ◌≤◌, take}
use Rattle.std.specs.Prelude.{count_by}
use Rattle.murphi_ast.specs.Title.{StartKind, is_of}
use Rattle.murphi_syntax.proofs.scope.count_starts.Given as goal

abbrev pub invariant-loop-item : goal.invariant-loop-item
invariant-loop-item l = (l.count ≡ count_by (is_of StartKind) (take l.item-index l.items)) × (l.count ≤ l.item-index)
