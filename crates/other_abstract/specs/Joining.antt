-- The conjunction and the disjunction of values that terms may have, each term choosing by itself.
use Rattle.std.specs.Prelude.{◌≡◌, Bool, true, false, ◌&&◌, ◌||◌, List, [], ◌∷◌}
use Rattle.term_core.specs.declared.term.Term.{Term}
use Rattle.other_abstract.specs.declared.node.AbsNode.{AbsNode}
use Rattle.other_abstract.specs.declared.value.AbsValue.{AbsValue}
use Rattle.other_abstract.specs.Windows.{Window, truth}
use Rattle.other_abstract.specs.May.{AbsCells, May}

abbrev pub MayAnd : Window → AbsCells → List AbsNode → List Term → Bool → Type 0
MayAnd W w env [] b = b ≡ true
MayAnd W w env (first ∷ rest) b =
    (x : AbsValue) × (q : Bool) × May W w env first x × MayAnd W w env rest q × (b ≡ (truth x && q))

abbrev pub MayOr : Window → AbsCells → List AbsNode → List Term → Bool → Type 0
MayOr W w env [] b = b ≡ false
MayOr W w env (first ∷ rest) b =
    (x : AbsValue) × (q : Bool) × May W w env first x × MayOr W w env rest q × (b ≡ (truth x || q))
