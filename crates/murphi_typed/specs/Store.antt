-- What a running body reads and writes: the cells of all variables in scope, each found by its variable, the
-- names of the fields and the values of the indices. The fields go by their names, so that records with the
-- same fields in another order are copied field by field.
use Rattle.std.specs.Prelude.{ℕ, Bool, false, ◌&&◌, nat_eq, List, [], ◌∷◌, ◌++◌, Option, None, Some, if◌then◌else◌}
use Rattle.std.specs.Str.{bytes_eq}
use Rattle.term_core.specs.declared.value.Value.{Value}
use Rattle.term_core.specs.declared.value.Value.TheVariants.{Undefined}
use Rattle.term_core.specs.Values.{same_value}
use Rattle.murphi_typed.specs.Families.{Path}

-- a variable: a global, or a local or a formal by value of the body at this depth. The body of a rule has
-- depth 0, and a routine that it calls has depth 1.
pub data Owner : Type 0 where
  Global : ℕ → Owner
  Local : ℕ → ℕ → Owner
  Formal : ℕ → ℕ → Owner

abbrev pub same_owner : Owner → Owner → Bool
same_owner (Global a) (Global b) = nat_eq a b
same_owner (Local depth a) (Local other b) = nat_eq depth other && nat_eq a b
same_owner (Formal depth a) (Formal other b) = nat_eq depth other && nat_eq a b
same_owner _ _ = false

-- the values of cells by field names and indices: of one variable, or of those under a place
abbrev pub Contents : Type 0
Contents = Path → List Value → Value

-- the values of all cells
abbrev pub Cells : Type 0
Cells = Owner → Contents

-- a place: the cells of a variable under these fields and indices
pub record Place : Type 0 where
  pub owner : Owner
  pub path : Path
  pub at : List Value

-- every cell is undefined
abbrev pub blank : Cells
blank owner path at = Undefined

-- the value of the cell at a place of simple type
abbrev pub cell_at : Cells → Place → Value
cell_at cells place = cells place.owner place.path place.at

-- the values of the cells under a place
abbrev pub contents_at : Cells → Place → Contents
contents_at cells place path at = cells place.owner (place.path ++ path) (place.at ++ at)

-- what follows a front part in a list, if the list begins with it
abbrev pub beyond : {A : Type 0} → (A → A → Bool) → List A → List A → Option (List A)
beyond same [] all = Some all
beyond same (x ∷ front) [] = None
beyond same (x ∷ front) (y ∷ all) = if same x y then beyond same front all else None

-- the new value of a cell under the place, the old one of any other
abbrev pub renewed : Contents → Value → Option Path → Option (List Value) → Value
renewed new old (Some path) (Some at) = new path at
renewed new old _ _ = old

-- the cells in which those under a place have new values
abbrev pub written : Cells → Place → Contents → Cells
written cells place new owner path at =
    if same_owner owner place.owner then renewed new (cells owner path at) (beyond bytes_eq place.path path)
    (beyond same_value place.at at) else cells owner path at

-- one value, whatever the fields and indices are: that of a single cell
abbrev pub only : Value → Contents
only v path at = v
