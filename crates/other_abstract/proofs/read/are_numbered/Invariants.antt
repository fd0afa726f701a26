use Rattle.std.proofs.Common.{◌≡◌, map, drop}
use Rattle.std.specs.List.{list_all}
use Rattle.term_core.specs.Nodes.{is_node}
use Rattle.other_abstract.specs.Windows.{size, node_number}
use Rattle.other_abstract.specs.Lists.{window_in}
use Rattle.other_abstract.proofs.read.are_numbered.Given as goal

abbrev pub invariant-loop-node : goal.invariant-loop-node
invariant-loop-node l =
    list_all (is_node (size (window_in l.scene))) (map (node_number l.scene.kept) (drop l.node-index l.nodes))
    ≡ list_all (is_node (size (window_in l.scene))) (map (node_number l.scene.kept) l.nodes)
