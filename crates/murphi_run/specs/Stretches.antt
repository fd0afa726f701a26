-- The cells under a place as a stretch of the list.
use Rattle.std.specs.Prelude.{◌≡◌, ℕ, List, ◌++◌, Some, length, take, drop}
use Rattle.term_core.specs.declared.value.Value.{Value}
use Rattle.murphi_typed.specs.declared.types.AnyType.{AnyType}
use Rattle.murphi_typed.specs.Store.{Place, Contents, Cells, contents_at, written}
use Rattle.murphi_run.specs.Layout.{size, leads_to}
use Rattle.murphi_run.specs.Holding.{Block, Layout, number_in, HoldsVariable, Holds, IsLayout}

-- a list with other items from a number on
abbrev pub with_stretch : {A : Type 0} → ℕ → List A → List A → List A
with_stretch n new xs = take n xs ++ (new ++ drop (length new) (drop n xs))

-- a list holds the cells of a variable of this type
abbrev pub HoldsAlone : ℕ → AnyType → List Value → Contents → Type 0
HoldsAlone N type values contents = HoldsVariable N (record { first = 0; of = type }) values contents

-- where a list holds the cells in scope, the stretch of a place holds those under it
abbrev pub StretchesAreThose : Type 0
StretchesAreThose =
    (N : ℕ) (layout : Layout) (values : List Value) (cells : Cells) (b : Block) (place : Place) (inner : AnyType)
    → Holds N layout values cells → layout place.owner ≡ Some b → leads_to N b.of place.path place.at ≡ Some inner
    → HoldsAlone N inner (take (size N inner) (drop (number_in N b place.path place.at) values)) (contents_at cells place)

-- and with another stretch there, that holds contents, it holds the cells in which these are written
abbrev pub StretchesAreWritten : Type 0
StretchesAreWritten =
    (N : ℕ) (layout : Layout) (values new : List Value) (cells : Cells) (b : Block) (place : Place) (inner : AnyType)
    (contents : Contents)
    → IsLayout N layout (length values) → Holds N layout values cells → layout place.owner ≡ Some b
    → leads_to N b.of place.path place.at ≡ Some inner → length new ≡ size N inner → HoldsAlone N inner new contents
    → Holds N layout (with_stretch (number_in N b place.path place.at) new values) (written cells place contents)
