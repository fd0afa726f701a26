-- The cells of families at nodes of a window: family by family in order, and within a family by the nodes, the
-- first slowest.
use Rattle.std.specs.Prelude.{ℕ, suc, List, [], ◌∷◌, ◌++◌, map}
use Rattle.term_core.specs.declared.machine.CellFamily.{CellFamily}
use Rattle.other_abstract.specs.declared.node.AbsNode.{AbsNode}
use Rattle.other_abstract.specs.declared.place.Place.{Place}
use Rattle.other_abstract.specs.Tests.{lists_of, window_nodes}
use Rattle.other_abstract.specs.Windows.{Window}

-- the first of the families has this number
abbrev pub places_in : List AbsNode → ℕ → List CellFamily → List Place
places_in ns first [] = []
places_in ns first (f ∷ fs) =
    map (λ (at : List AbsNode). record { family = first; at = at }) (lists_of ns f.axes) ++ places_in ns (suc first) fs

-- the cells of a window
abbrev pub places : Window → List Place
places W = places_in (window_nodes W) 0 W.families
