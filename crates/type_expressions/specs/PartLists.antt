-- The operands of a chain and the fields of a record, over the lists that code reads; and whether an expression is a
-- designator.
use Rattle.std.specs.Prelude.{ℕ, pos, List, [], ◌∷◌, Option, None, Some, ◌&&◌, Bool, true, false}
use Rattle.murphi_ast.specs.declared.expr.Link.{Link}
use Rattle.murphi_ast.specs.declared.expr.FieldDecl.{FieldDecl}
use Rattle.murphi_ast.specs.declared.expr.Selector.{Selector}
use Rattle.murphi_ast.specs.declared.expr.Designator.{Designator}
use Rattle.murphi_ast.specs.declared.expr.Expr as e
use Rattle.murphi_ast.specs.declared.expr.Expr.{Expr, items-the_row-Selector}
use Rattle.term_core.specs.declared.value.Value.{Value}
use Rattle.term_core.specs.declared.value.Value.TheVariants as value
use Rattle.murphi_typed.specs.declared.types.Simple.{Simple}
use Rattle.murphi_typed.specs.declared.types.Simple.TheVariants as simple
use Rattle.murphi_typed.specs.declared.types.AnyType as t
use Rattle.murphi_typed.specs.declared.expr.Expr as x
use Rattle.type_parts.specs.declared.judged.Judged.{Judged}
use Rattle.murphi_typed.specs.WellTyped.{numbers, operand_type}
use Rattle.murphi_types.specs.declared.scope.Known.{Known}
use Rattle.murphi_types.specs.declared.scope.Scope.{Scope}
use Rattle.murphi_types.specs.Places.{place_of}
use Rattle.murphi_types.specs.Scopes.{looked}
use Rattle.murphi_types.specs.Fitting.{has_values_of}
use Rattle.murphi_types.specs.Constants.{is_constant, is_constant_name}
use Rattle.murphi_types.specs.Found.{FoundLinks, with_more, wanted, no_links, link_found}
use Rattle.murphi_types.specs.Types.{FoundFields, Unnamed, no_fields, field_made}
use Rattle.murphi_types.specs.Typing.{found, type_found}

-- the type of the operands of a chain
abbrev pub list_operands : List Link → Simple
list_operands [] = numbers
list_operands (l ∷ ls) = operand_type l.op

abbrev pub list_links : Scope → Known → Simple → List Link → FoundLinks
list_links s k type [] = no_links k
list_links s k type (l ∷ ls) =
    with_more (wanted (has_values_of type) (place_of l.operand) (found s k l.operand))
    (λ f. list_links s f.known type ls) (link_found l.op)

abbrev pub list_fields : Scope → Known → List FieldDecl → FoundFields
list_fields s k [] = no_fields k
list_fields s k (d ∷ ds) =
    with_more (type_found s k Unnamed d.body) (λ f. list_fields s f.known ds) (field_made d.names)

-- the designator that an expression is
abbrev pub place_in : Expr → Option Designator
place_in (e.Place' root _ row) = Some (record { root = root; selectors = items-the_row-Selector _ row })
place_in _ = None

-- constants
abbrev pub list_constants : Scope → Known → List Link → Bool
list_constants s k [] = true
list_constants s k (l ∷ ls) = is_constant s k l.operand && list_constants s k ls

abbrev pub no_list : List Selector → Bool
no_list [] = true
no_list (x ∷ xs) = false

abbrev pub constant_place : Scope → Known → Designator → Bool
constant_place s k d = no_list d.selectors && is_constant_name (looked s k d.root.name)

-- literals
abbrev pub literal_part : Simple → Value → Judged
literal_part of v = record { of = Some (t.Simple of); tree = x.Known v; weight = 1; fault = None }

abbrev pub literal_number : ℕ → Judged
literal_number n = literal_part numbers (value.Number (pos n))

abbrev pub literal_truth : Bool → Judged
literal_truth b = literal_part simple.Truth (value.Truth b)
