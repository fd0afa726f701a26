-- How sizes are written, by the parts that code reads.
use Rattle.std.specs.Prelude.{Bool, true, false, List, [], ◌∷◌, Option, None, Some}
use Rattle.murphi_ast.specs.declared.expr.Designator.{Designator}
use Rattle.murphi_ast.specs.declared.expr.Selector.{Selector}
use Rattle.murphi_ast.specs.declared.expr.Expr as e
use Rattle.murphi_ast.specs.declared.expr.Expr.{Expr}
use Rattle.murphi_typed.specs.Families.{Name}
use Rattle.murphi_typed.specs.declared.protocol.WrittenSize.{WrittenSize}
use Rattle.murphi_typed.specs.declared.protocol.WrittenSize.TheVariants as size

-- a name with nothing behind it
abbrev pub name_alone : Name → List Selector → Option Name
name_alone name [] = Some name
name_alone name (x ∷ xs) = None

-- the name that a designator is
abbrev pub name_of : Designator → Option Name
name_of d = name_alone d.root.name d.selectors

abbrev pub is_number : Expr → Bool
is_number (e.Number n at) = true
is_number _ = false

-- how a size is written that is a number, or has this name
abbrev pub size_by : Bool → Option Name → WrittenSize
size_by true name = size.Number
size_by false (Some name) = size.Constant name
size_by false None = size.Other
