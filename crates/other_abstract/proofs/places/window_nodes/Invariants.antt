use Rattle.std.proofs.Common.{◌≡◌, ◌+◌, ◌-◌, ◌++◌, map}
use Rattle.term_core.specs.Nodes.{nodes, nodes_from}
use Rattle.other_abstract.specs.declared.node.AbsNode.TheVariants.{Kept, Fired}
use Rattle.other_abstract.proofs.places.window_nodes.Given as goal

abbrev pub invariant-loop-k : goal.invariant-loop-k
invariant-loop-k l = l.out.items ++ map Kept (nodes_from (l.k + 1) (l.kept - l.k)) ≡ map Kept (nodes l.kept)

abbrev pub invariant-loop-j : goal.invariant-loop-j
invariant-loop-j l = l.out.items ++ map Fired (nodes_from (l.j + 1) (l.fired - l.j)) ≡ map Kept (nodes l.kept) ++ map Fired (nodes l.fired)
