-- What fits where. An ill-typed part has no type and fits every place: what only follows from another fault is
-- no fault.
use Rattle.std.specs.Prelude.{Bool, true, false, Option, None, Some}
use Rattle.std.specs.Option.{option_map_or}
use Rattle.murphi_ast.specs.declared.expr.CompareOp.{CompareOp}
use Rattle.murphi_ast.specs.declared.expr.CompareOp.TheVariants as compare
use Rattle.murphi_typed.specs.declared.types.Simple.{Simple}
use Rattle.murphi_typed.specs.declared.types.Simple.TheVariants as simple
use Rattle.murphi_typed.specs.declared.types.AnyType as t
use Rattle.murphi_typed.specs.declared.types.AnyType.{AnyType}
use Rattle.murphi_typed.specs.WellTyped.{numbers, widened, same_simple}

-- a part passes a test of its type, or is ill-typed
abbrev pub fits : (AnyType → Bool) → Option AnyType → Bool
fits test found = option_map_or test found true

abbrev pub is_simple : AnyType → Bool
is_simple (t.Simple type) = true
is_simple _ = false

-- the values are of this simple type; two subranges count as one type
abbrev pub has_values_of : Simple → AnyType → Bool
has_values_of type (t.Simple found) = same_simple (widened type) (widened found)
has_values_of type _ = false

abbrev pub is_truth : AnyType → Bool
is_truth found = has_values_of simple.Truth found

abbrev pub is_number : AnyType → Bool
is_number found = has_values_of numbers found

-- a type of values that are compared with those of another: both are simple, and of one type. Next to an
-- ill-typed or compound part every simple type will do.
abbrev pub is_comparable : Option AnyType → AnyType → Bool
is_comparable (Some (t.Simple left)) right = has_values_of left right
is_comparable _ right = is_simple right

abbrev pub is_equality : CompareOp → Bool
is_equality compare.Equal = true
is_equality compare.NotEqual = true
is_equality _ = false

-- the left side of a comparison: `=` and `!=` compare simple values, the others compare numbers
abbrev pub left_fits : Bool → AnyType → Bool
left_fits true left = is_simple left
left_fits false left = is_number left

-- the right side: of two unlike operands the right is wrong
abbrev pub right_fits : Bool → Option AnyType → AnyType → Bool
right_fits true left right = is_comparable left right
right_fits false left right = is_number right

-- the simple type that a type is
abbrev pub simple_part : Option AnyType → Option Simple
simple_part (Some (t.Simple type)) = Some type
simple_part _ = None

-- the type that a part has as an expression: subranges count as one type
abbrev pub as_value : AnyType → AnyType
as_value (t.Simple type) = t.Simple (widened type)
as_value type = type
