-- What is found of the rows of trees, over the lists that code reads.
use Rattle.std.proofs.Common.{◌≡◌, ℕ, Bool, List, [], ◌∷◌, Option, is_some, refl, ap, ◌∙◌}
use Rattle.murphi_ast.specs.declared.token.Span.{Span}
use Rattle.murphi_ast.specs.declared.expr.Named.{Named}
use Rattle.murphi_ast.specs.declared.expr.Link.{Link}
use Rattle.murphi_ast.specs.declared.expr.FieldDecl.{FieldDecl}
use Rattle.murphi_ast.specs.declared.expr.Designator.{Designator}
use Rattle.murphi_ast.specs.declared.expr.Selector as part
use Rattle.murphi_ast.specs.declared.expr.Selector.{Selector}
use Rattle.murphi_ast.specs.declared.expr.Expr as e
use Rattle.murphi_ast.specs.declared.expr.Expr.{Expr, Row_of-Expr, end_of-Expr, more_of-Expr, items-the_row-Expr, items_hidden-the_row-Expr-1, Row_of-Link, end_of-Link, more_of-Link, items-the_row-Link, items_hidden-the_row-Link-3, Row_of-Selector, end_of-Selector, more_of-Selector, items-the_row-Selector, items_hidden-the_row-Selector-0}
use Rattle.murphi_ast.specs.declared.expr.Expr.TheBlock.{hidden-the_row-Expr-1, hidden-the_row-Link-3, hidden-the_row-Selector-0}
use Rattle.murphi_ast.specs.declared.expr.TypeExpr.{Row_of-FieldDecl, end_of-FieldDecl, more_of-FieldDecl, items-the_row-FieldDecl}
use Rattle.murphi_typed.specs.declared.types.Simple.{Simple}
use Rattle.murphi_typed.specs.declared.types.AnyType.{AnyType}
use Rattle.murphi_typed.specs.declared.protocol.Formal.{Formal}
use Rattle.murphi_typed.specs.WellTyped.{first_of, rest_of}
use Rattle.murphi_types.specs.declared.scope.Known.{Known}
use Rattle.murphi_types.specs.declared.scope.Scope.{Scope}
use Rattle.murphi_types.specs.Places.{place_of}
use Rattle.murphi_types.specs.Fitting.{has_values_of}
use Rattle.murphi_types.specs.Found.{FoundLinks, wanted, link_found}
use Rattle.murphi_types.specs.Designators.{FoundSelectors, Chosen, field_chosen, field_found, index_type, index_fits, item_chosen, index_found, start_type, place_made}
use Rattle.murphi_types.specs.Calls.{FoundArguments, arguments_made, placed, valued}
use Rattle.murphi_types.specs.Scopes.{looked}
use Rattle.murphi_types.specs.Types.{FoundFields, Unnamed, field_made}
use Rattle.murphi_types.specs.Typing.{found, chain_operands, links_found, selectors_found, arguments_found, type_found, fields_found}
use Rattle.murphi_types.specs.Lists.{list_selectors, list_arguments, argument_found}
use Rattle.type_expressions.specs.PartLists.{list_operands, list_links, list_fields}

row_operands_is : {n : _} (row : Row_of-Link n) → chain_operands row ≡ list_operands (items-the_row-Link n row)
row_operands_is end_of-Link = refl
row_operands_is (more_of-Link op operand rest) = refl

pub operands-are : (ls : List Link) → chain_operands (hidden-the_row-Link-3 ls) ≡ list_operands ls
operands-are ls = row_operands_is (hidden-the_row-Link-3 ls) ∙ ap list_operands (items_hidden-the_row-Link-3 ls)

row_links_is : {n : _} (s : Scope) (k : Known) (type : Simple) (row : Row_of-Link n) → links_found s k type row ≡ list_links s k type (items-the_row-Link n row)
unfolding found
row_links_is s k type end_of-Link = refl
row_links_is s k type (more_of-Link op operand rest) =
    let f = wanted (has_values_of type) (place_of operand) (found s k operand) in
    ap (link_found op f) (row_links_is s f.known type rest)

pub links-are : (s : Scope) (k : Known) (type : Simple) (ls : List Link) → links_found s k type (hidden-the_row-Link-3 ls) ≡ list_links s k type ls
links-are s k type ls = row_links_is s k type (hidden-the_row-Link-3 ls) ∙ ap (list_links s k type) (items_hidden-the_row-Link-3 ls)

pub row_selectors_is : {n : _} (s : Scope) (k : Known) (at : Span) (type : Option AnyType) (row : Row_of-Selector n) → selectors_found s k at type row ≡ list_selectors s k at type (items-the_row-Selector n row)
unfolding found
row_selectors_is s k at type end_of-Selector = refl
row_selectors_is s k at type (more_of-Selector (part.Field name) rest) =
    let c = field_chosen at name type in
    ap (field_found name c) (row_selectors_is s k at c.type rest)
row_selectors_is s k at type (more_of-Selector (part.Index index) rest) =
    let f = wanted (index_fits (index_type type)) (place_of index) (found s k index) in
    ap (index_found (index_type type) f (item_chosen at (is_some f.type) type)) (row_selectors_is s f.known at (item_chosen at (is_some f.type) type).type rest)

pub selectors-are : (s : Scope) (k : Known) (at : Span) (type : Option AnyType) (xs : List Selector) → selectors_found s k at type (hidden-the_row-Selector-0 xs) ≡ list_selectors s k at type xs
selectors-are s k at type xs = row_selectors_is s k at type (hidden-the_row-Selector-0 xs) ∙ ap (list_selectors s k at type) (items_hidden-the_row-Selector-0 xs)

pub row_fields_is : {n : _} (s : Scope) (k : Known) (row : Row_of-FieldDecl n) → fields_found s k row ≡ list_fields s k (items-the_row-FieldDecl n row)
unfolding found
row_fields_is s k end_of-FieldDecl = refl
row_fields_is s k (more_of-FieldDecl names body rest) =
    let f = type_found s k Unnamed body in
    ap (field_made names f) (row_fields_is s f.known rest)

pub row_arguments_is : {n : _} (s : Scope) (k : Known) (at : Span) (formals : List Formal) (row : Row_of-Expr n) → arguments_found s k at formals row ≡ list_arguments s k at formals (items-the_row-Expr n row)
unfolding found
row_arguments_is s k at formals end_of-Expr = refl
row_arguments_is s k at formals (more_of-Expr (e.Place' root shape row) rest) =
    let P = place_made root.at (looked s k root.name) (start_type root.at (looked s k root.name)) in
    let c = start_type root.at (looked s k root.name) in
    let f = placed (first_of formals) (P (selectors_found s k root.at c.type row)) in
    ap (arguments_made f) (row_arguments_is s f.known at (rest_of formals) rest)
row_arguments_is s k at formals (more_of-Expr (e.Number n p) rest) =
    let f = argument_found s k at (first_of formals) (e.Number n p) in
    ap (arguments_made f) (row_arguments_is s f.known at (rest_of formals) rest)
row_arguments_is s k at formals (more_of-Expr (e.Truth b p) rest) =
    let f = argument_found s k at (first_of formals) (e.Truth b p) in
    ap (arguments_made f) (row_arguments_is s f.known at (rest_of formals) rest)
row_arguments_is s k at formals (more_of-Expr (e.Call' name shape row) rest) =
    let f = argument_found s k at (first_of formals) (e.Call' name shape row) in
    ap (arguments_made f) (row_arguments_is s f.known at (rest_of formals) rest)
row_arguments_is s k at formals (more_of-Expr (e.Not' shape row p) rest) =
    let f = argument_found s k at (first_of formals) (e.Not' shape row p) in
    ap (arguments_made f) (row_arguments_is s f.known at (rest_of formals) rest)
row_arguments_is s k at formals (more_of-Expr (e.Minus' shape row p) rest) =
    let f = argument_found s k at (first_of formals) (e.Minus' shape row p) in
    ap (arguments_made f) (row_arguments_is s f.known at (rest_of formals) rest)
row_arguments_is s k at formals (more_of-Expr (e.Chain' shape row more links) rest) =
    let f = argument_found s k at (first_of formals) (e.Chain' shape row more links) in
    ap (arguments_made f) (row_arguments_is s f.known at (rest_of formals) rest)
row_arguments_is s k at formals (more_of-Expr (e.Compare' op shape row more right) rest) =
    let f = argument_found s k at (first_of formals) (e.Compare' op shape row more right) in
    ap (arguments_made f) (row_arguments_is s f.known at (rest_of formals) rest)
row_arguments_is s k at formals (more_of-Expr (e.Implies' shape row more right) rest) =
    let f = argument_found s k at (first_of formals) (e.Implies' shape row more right) in
    ap (arguments_made f) (row_arguments_is s f.known at (rest_of formals) rest)
row_arguments_is s k at formals (more_of-Expr (e.Choice' s1 r1 s2 r2 s3 r3) rest) =
    let f = argument_found s k at (first_of formals) (e.Choice' s1 r1 s2 r2 s3 r3) in
    ap (arguments_made f) (row_arguments_is s f.known at (rest_of formals) rest)
row_arguments_is s k at formals (more_of-Expr (e.Quantified' all s1 r1 s2 r2 p) rest) =
    let f = argument_found s k at (first_of formals) (e.Quantified' all s1 r1 s2 r2 p) in
    ap (arguments_made f) (row_arguments_is s f.known at (rest_of formals) rest)
row_arguments_is s k at formals (more_of-Expr (e.IsUndefined' root shape row p) rest) =
    let f = argument_found s k at (first_of formals) (e.IsUndefined' root shape row p) in
    ap (arguments_made f) (row_arguments_is s f.known at (rest_of formals) rest)

pub arguments-are : (s : Scope) (k : Known) (at : Span) (formals : List Formal) (xs : List Expr) → arguments_found s k at formals (hidden-the_row-Expr-1 xs) ≡ list_arguments s k at formals xs
arguments-are s k at formals xs = row_arguments_is s k at formals (hidden-the_row-Expr-1 xs) ∙ ap (list_arguments s k at formals) (items_hidden-the_row-Expr-1 xs)
