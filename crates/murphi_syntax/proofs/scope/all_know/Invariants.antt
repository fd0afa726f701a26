use Rattle.std.proofs.Common.{◌≡◌, drop}
use Rattle.std.specs.List.{list_all}
use Rattle.murphi_ast.specs.Flat.{item_knows}
use Rattle.murphi_syntax.specs.Scope.{names_of}
use Rattle.murphi_syntax.proofs.scope.all_know.Given as goal

abbrev pub invariant-loop-item : goal.invariant-loop-item
invariant-loop-item l = list_all (item_knows (names_of l.names)) (drop l.item-index l.items) ≡ list_all (item_knows (names_of l.names)) l.items
