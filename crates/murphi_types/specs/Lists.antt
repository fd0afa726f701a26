-- The same over lists, for designators and arguments that stand in statements: there they are no rows.
use Rattle.std.specs.Prelude.{List, [], ◌∷◌, Option}
use Rattle.murphi_ast.specs.declared.token.Span.{Span}
use Rattle.murphi_ast.specs.declared.expr.Expr as e
use Rattle.murphi_ast.specs.declared.expr.Expr.{Expr}
use Rattle.murphi_ast.specs.declared.expr.Selector as part
use Rattle.murphi_ast.specs.declared.expr.Selector.{Selector}
use Rattle.murphi_ast.specs.declared.expr.Designator.{Designator}
use Rattle.murphi_typed.specs.declared.types.AnyType.{AnyType}
use Rattle.murphi_typed.specs.declared.protocol.Formal.{Formal}
use Rattle.murphi_typed.specs.WellTyped.{first_of, rest_of}
use Rattle.murphi_types.specs.declared.scope.Known.{Known}
use Rattle.murphi_types.specs.declared.scope.Scope.{Scope}
use Rattle.murphi_types.specs.Places.{place_of}
use Rattle.murphi_types.specs.Scopes.{looked}
use Rattle.murphi_types.specs.Found.{with_more, wanted}
use Rattle.murphi_types.specs.Designators.{FoundSelectors, FoundPlace, start_type, no_selectors, field_chosen, index_type, index_fits, field_found, item_selected, place_made}
use Rattle.murphi_types.specs.Calls.{FoundArguments, no_arguments, arguments_made, placed, valued}
use Rattle.murphi_types.specs.Typing.{found, selectors_found}

abbrev pub list_selectors : Scope → Known → Span → Option AnyType → List Selector → FoundSelectors
list_selectors s k at type [] = no_selectors type k
list_selectors s k at type (part.Field name ∷ rest) =
    with_more (field_chosen at name type) (λ c. list_selectors s k at c.type rest) (field_found name)
list_selectors s k at type (part.Index index ∷ rest) =
    with_more (wanted (index_fits (index_type type)) (place_of index) (found s k index))
    (λ f. item_selected at type f (λ c. list_selectors s f.known at c.type rest)) (λ f g. g)

-- a designator
abbrev pub place_found : Scope → Known → Designator → FoundPlace
place_found s k d =
    with_more (start_type d.root.at (looked s k d.root.name))
    (λ c. list_selectors s k d.root.at c.type d.selectors) (place_made d.root.at (looked s k d.root.name))

-- an argument for a formal, in the call at this place
abbrev pub argument_found : Scope → Known → Span → Option Formal → Expr → FoundArguments
argument_found s k at formal (e.Place' name _ row) =
    placed formal (with_more (start_type name.at (looked s k name.name))
    (λ c. selectors_found s k name.at c.type row) (place_made name.at (looked s k name.name)))
argument_found s k at formal other = valued at (place_of other) formal (found s k other)

abbrev pub list_arguments : Scope → Known → Span → List Formal → List Expr → FoundArguments
list_arguments s k at formals [] = no_arguments k
list_arguments s k at formals (first ∷ rest) =
    with_more (argument_found s k at (first_of formals) first)
    (λ f. list_arguments s f.known at (rest_of formals) rest) arguments_made
