use Rattle.std.proofs.Common.{◌≡◌, not, ◌&&◌, ◌||◌, [], ◌∷◌, ◌++◌, drop}
use Rattle.std.specs.List.{list_all, list_any}
use Rattle.other_abstract.specs.Tests.{passes, may}
use Rattle.other_abstract.specs.Lists.{window_in, AreLed}
use Rattle.other_abstract.proofs.evaluate.+evaluate.Given as goal

abbrev pub invariant-leads-loop-index : goal.invariant-leads-loop-index
invariant-leads-loop-index l =
    (l.env.items ≡ l.fn.env.items)
    × AreLed (window_in l.scene) l.scene.cells.now l.fn.env.items (drop l.index-index l.at) l.out.items l.at

abbrev pub invariant-tally_parts-loop-part : goal.invariant-tally_parts-loop-part
invariant-tally_parts-loop-part l =
    (l.env.items ≡ l.fn.env.items)
    × ((l.out.each && list_all (λ x. may (window_in l.scene) l.scene.cells.now l.fn.env.items x (passes l.wanted)) (drop l.part-index l.parts))
    ≡ list_all (λ x. may (window_in l.scene) l.scene.cells.now l.fn.env.items x (passes l.wanted)) l.parts)
    × ((l.out.other || list_any (λ x. may (window_in l.scene) l.scene.cells.now l.fn.env.items x (passes (not l.wanted))) (drop l.part-index l.parts))
    ≡ list_any (λ x. may (window_in l.scene) l.scene.cells.now l.fn.env.items x (passes (not l.wanted))) l.parts)

abbrev pub invariant-tally_nodes-loop-node : goal.invariant-tally_nodes-loop-node
invariant-tally_nodes-loop-node l =
    (l.env.items ≡ l.fn.env.items)
    × ((l.out.each && list_all (λ n. may (window_in l.scene) l.scene.cells.now (l.fn.env.items ++ n ∷ []) l.body (passes l.wanted)) (drop l.node-index l.scene.nodes.now))
    ≡ list_all (λ n. may (window_in l.scene) l.scene.cells.now (l.fn.env.items ++ n ∷ []) l.body (passes l.wanted)) l.scene.nodes.now)
    × ((l.out.other || list_any (λ n. may (window_in l.scene) l.scene.cells.now (l.fn.env.items ++ n ∷ []) l.body (passes (not l.wanted))) (drop l.node-index l.scene.nodes.now))
    ≡ list_any (λ n. may (window_in l.scene) l.scene.cells.now (l.fn.env.items ++ n ∷ []) l.body (passes (not l.wanted))) l.scene.nodes.now)
