-- What a place is in the list of the cells in scope: the number of the first cell under it, and the type of what it
-- leads to. A field or an index leads from there to a place under it.
use Rattle.std.specs.Prelude.{◌≡◌, ℕ, ◌+◌, ◌*◌, List, Option, None, Some, option_map, if◌then◌else◌}
use Rattle.term_core.specs.declared.value.Value.{Value}
use Rattle.murphi_typed.specs.declared.types.AnyType as t
use Rattle.murphi_typed.specs.declared.types.AnyType.{AnyType}
use Rattle.murphi_typed.specs.Forms.{ArrayForm}
use Rattle.murphi_typed.specs.Values.{is_value}
use Rattle.murphi_typed.specs.Families.{Name, Path}
use Rattle.murphi_typed.specs.Store.{Place}
use Rattle.murphi_typed.specs.WellTyped.{row_field}
use Rattle.murphi_run.specs.Layout.{rank, size, row_first, offset, leads_to}
use Rattle.murphi_run.specs.Holding.{Block, Layout}

-- a place that field names and indices lead to from another: its type, and the number of its first cell
pub record IsUnder (N : ℕ) (b : Block) (path : Path) (at : List Value) (c : Block) : Type 0 where
  pub leads : leads_to N b.of path at ≡ Some c.of
  pub number : c.first ≡ b.first + offset N b.of path at

-- a place of the definition, and where its cells stand in the list
pub record IsPlaced (N : ℕ) (layout : Layout) (p : Place) (c : Block) : Type 0 where
  pub whole : Block
  pub found : layout p.owner ≡ Some whole
  pub below : IsUnder N whole p.path p.at c

-- what stands at a number
abbrev pub at_number : ℕ → AnyType → Block
at_number first type = record { first = first; of = type }

-- what a field leads to, in a record that has it
unfoldable pub field_of : ℕ → Block → Name → Option Block
field_of N b name = of_type b.of
  where
    of_type : AnyType → Option Block
    of_type (t.Record' _ fields) =
        option_map (at_number (b.first + row_first N fields name)) (row_field fields name)
    of_type _ = None

-- what an index leads to, in an array with that index
unfoldable pub item_of : ℕ → Block → Value → Option Block
item_of N b v = of_type b.of
  where
    of_type : AnyType → Option Block
    of_type (ArrayForm index item) =
        if is_value N index v then Some (at_number (b.first + rank index v * size N item) item) else None
    of_type _ = None
