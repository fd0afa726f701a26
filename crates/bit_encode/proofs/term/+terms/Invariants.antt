use Rattle.std.proofs.Common.{◌≡◌, [], ◌∷◌, ◌++◌, take, drop}
use Rattle.circuit_core.specs.Growth.{KeepsEdges}
use Rattle.other_abstract.specs.Tests.{passes, may}
use Rattle.other_abstract.specs.Lists.{window_in}
use Rattle.bit_encode.specs.Leads.{HasLeadEdges}
use Rattle.bit_encode.specs.Terms.{IsLedSoFar}
use Rattle.bit_encode.proofs.TermLemmas.{Tallied}
use Rattle.bit_encode.proofs.term.+terms.Given as goal

abbrev pub invariant-leads-loop-index : goal.invariant-leads-loop-index
invariant-leads-loop-index l =
    (l.env.items ≡ l.fn.env.items)
    × KeepsEdges l.fn.circuit l.circuit
    × HasLeadEdges l.circuit l.out
    × IsLedSoFar l.circuit l.scene.cells.now (window_in l.scene.window) l.fn.env.items (drop l.index-index l.at) l.out l.at

abbrev pub invariant-tally_parts-loop-part : goal.invariant-tally_parts-loop-part
invariant-tally_parts-loop-part l =
    (l.env.items ≡ l.fn.env.items)
    × Tallied l.fn.circuit l.circuit l.scene.cells.now l.out (λ w x b. may (window_in l.scene.window) w l.fn.env.items x (passes b)) l.wanted (take l.part-index l.parts)

abbrev pub invariant-tally_nodes-loop-node : goal.invariant-tally_nodes-loop-node
invariant-tally_nodes-loop-node l =
    (l.env.items ≡ l.fn.env.items)
    × Tallied l.fn.circuit l.circuit l.scene.cells.now l.out (λ w n b. may (window_in l.scene.window) w (l.fn.env.items ++ n ∷ []) l.body (passes b)) l.wanted (take l.node-index l.scene.window.nodes.now)
