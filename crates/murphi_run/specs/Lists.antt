-- What rows of fields say, over the lists that code reads.
use Rattle.std.specs.Prelude.{ℕ, ◌+◌, List, [], ◌∷◌, Option, None, Some, if◌then◌else◌}
use Rattle.std.specs.Str.{bytes_eq}
use Rattle.term_core.specs.declared.value.Value.{Value}
use Rattle.murphi_typed.specs.declared.types.Field.{Field}
use Rattle.murphi_typed.specs.declared.types.AnyType.{AnyType}
use Rattle.murphi_typed.specs.Families.{Name, Path}
use Rattle.murphi_run.specs.Layout.{name_before, size, offset}

abbrev pub list_size : ℕ → List Field → ℕ
list_size N [] = 0
list_size N (f ∷ fs) = size N f.of + list_size N fs

abbrev pub list_first : ℕ → List Field → Name → ℕ
list_first N [] name = 0
list_first N (f ∷ fs) name =
    if name_before f.name name then size N f.of + list_first N fs name else list_first N fs name

abbrev pub list_offset : ℕ → List Field → Name → Path → List Value → ℕ
list_offset N [] name path at = 0
list_offset N (f ∷ fs) name path at =
    if bytes_eq f.name name then offset N f.of path at else list_offset N fs name path at

-- the type of the first field of a name
abbrev pub list_field : List Field → Name → Option AnyType
list_field [] name = None
list_field (f ∷ fs) name = if bytes_eq f.name name then Some f.of else list_field fs name
