-- Fields of records, over the lists that code reads.
use Rattle.std.specs.Prelude.{Bool, true, false, ◌&&◌, List, [], ◌∷◌, Option, None, Some, if◌then◌else◌}
use Rattle.std.specs.Option.{option_map_or}
use Rattle.std.specs.Str.{bytes_eq}
use Rattle.murphi_typed.specs.declared.types.AnyType.{AnyType}
use Rattle.murphi_typed.specs.declared.types.Field.{Field}
use Rattle.murphi_typed.specs.Families.{Name}
use Rattle.murphi_typed.specs.WellTyped.{has_parts}

-- the type of the first field of a name
abbrev pub list_field : List Field → Name → Option AnyType
list_field [] name = None
list_field (f ∷ fs) name = if bytes_eq f.name name then Some f.of else list_field fs name

-- each field is one of the others, under its name
abbrev pub each_of : List Field → List Field → Bool
each_of [] others = true
each_of (f ∷ fs) others = option_map_or (has_parts f.of) (list_field others f.name) false && each_of fs others
