-- What types expressions, designators, arguments and types by parts have, in terms of the parts of which typing makes
-- them: with lists where the trees have rows.
use Rattle.std.proofs.Common.{◌≡◌, ℕ, Bool, true, false, not, ◌&&◌, List, [], ◌∷◌, Option, None, Some, refl, ap, ◌∙◌}
use Rattle.std.specs.Prelude.{is_some, option_map, option_and_then, slice_get, if◌then◌else◌}
use Rattle.std.specs.Str.{bytes_eq}
use denote.Hole.Carrier.{hidden}
use Rattle.term_core.specs.declared.value.Value.{Value}
use Rattle.murphi_ast.specs.declared.token.Span.{Span}
use Rattle.murphi_ast.specs.declared.expr.CompareOp.{CompareOp}
use Rattle.murphi_ast.specs.declared.expr.CompareOp.TheVariants as compare
use Rattle.murphi_typed.specs.Families.{Name}
use Rattle.murphi_typed.specs.declared.types.Kind.{Kind}
use Rattle.murphi_typed.specs.declared.types.Field.{Field}
use Rattle.murphi_typed.specs.declared.types.Simple.{Simple}
use Rattle.murphi_typed.specs.declared.types.Simple.TheVariants as simple
use Rattle.murphi_typed.specs.declared.types.AnyType as t
use Rattle.murphi_typed.specs.declared.types.AnyType.{AnyType, Row_of-Field, end_of-Field, more_of-Field, items-the_row-Field, items_hidden-the_row-Field-0}
use Rattle.murphi_typed.specs.declared.types.AnyType.TheBlock.{hidden-the_row-Field-0, shape-the_row-AnyType-1, hidden-the_row-AnyType-1}
use Rattle.murphi_typed.specs.declared.expr.Root.{Root}
use Rattle.murphi_typed.specs.declared.expr.Link.{Link}
use Rattle.murphi_typed.specs.declared.expr.Selector as select
use Rattle.murphi_typed.specs.declared.expr.Selector.{Selector}
use Rattle.murphi_typed.specs.declared.expr.Argument.{Argument}
use Rattle.murphi_typed.specs.declared.expr.Arguments as a
use Rattle.murphi_typed.specs.declared.expr.Arguments.{Arguments, Row_of-Argument, end_of-Argument, more_of-Argument, items-the_row-Argument, items_hidden-the_row-Argument-0}
use Rattle.murphi_typed.specs.declared.expr.Designator as d
use Rattle.murphi_typed.specs.declared.expr.Designator.{Designator, Row_of-Selector, end_of-Selector, more_of-Selector, items-the_row-Selector, items_hidden-the_row-Selector-1}
use Rattle.murphi_typed.specs.declared.expr.Expr as x
use Rattle.murphi_typed.specs.declared.expr.Expr.{Expr, Row_of-Link, end_of-Link, more_of-Link, items-the_row-Link, items_hidden-the_row-Link-3}
use Rattle.murphi_typed.specs.declared.expr.Argument.TheBlock.{shape-the_row-Expr-2, hidden-the_row-Expr-2, hidden-the_row-Link-3, hidden-the_row-Selector-1, hidden-the_row-Argument-0}
use Rattle.murphi_typed.specs.declared.protocol.Formal.{Formal}
use Rattle.murphi_typed.specs.WellTyped.{Scope, numbers, widened, is_simple_type, row_field, is_type, are_fields, binding, root_type, simple_part, field_part, item_part, is_of, only_if, operand_type, comparable, known_type, first_of, rest_of, type_of, chain_type, place_type, selected_type, arguments_fit, row_fits, argument_fits}

-- Lists

abbrev pub list_chain : Scope → Option Simple → List Link → Option Simple
list_chain W before [] = before
list_chain W before (l ∷ ls) =
    list_chain W (only_if (is_of (operand_type l.op) before && is_of (operand_type l.op) (type_of W l.operand)) (Some (operand_type l.op))) ls

abbrev pub list_selected : Scope → Option AnyType → List Selector → Option AnyType
list_selected W found [] = found
list_selected W found (select.Field name ∷ rest) = list_selected W (field_part found name) rest
list_selected W found (select.Index over index ∷ rest) =
    list_selected W (only_if (is_of over (type_of W index)) (item_part found over)) rest

abbrev pub list_args : Scope → List Formal → List Argument → Bool
list_args W [] [] = true
list_args W (f ∷ fs) [] = false
list_args W formals (first ∷ rest) = argument_fits W (first_of formals) first && list_args W (rest_of formals) rest

abbrev pub list_field : List Field → Name → Option AnyType
list_field [] name = None
list_field (f ∷ fs) name = if bytes_eq f.name name then Some f.of else list_field fs name

abbrev pub list_fields : List Kind → List Field → Bool
list_fields kinds [] = true
list_fields kinds (f ∷ fs) = is_type kinds f.of && (not (is_some (list_field fs f.name)) && list_fields kinds fs)

links-are : {n : _} (W : Scope) (before : Option Simple) (row : Row_of-Link n) → chain_type W before row ≡ list_chain W before (items-the_row-Link n row)
unfolding type_of
links-are W before end_of-Link = refl
links-are W before (more_of-Link op operand rest) = links-are W _ rest

selectors-are : {n : _} (W : Scope) (found : Option AnyType) (row : Row_of-Selector n) → selected_type W found row ≡ list_selected W found (items-the_row-Selector n row)
unfolding type_of
selectors-are W found end_of-Selector = refl
selectors-are W found (more_of-Selector (select.Field name) rest) = selectors-are W _ rest
selectors-are W found (more_of-Selector (select.Index over index) rest) = selectors-are W _ rest

args-are : {n : _} (W : Scope) (formals : List Formal) (row : Row_of-Argument n) → row_fits W formals row ≡ list_args W formals (items-the_row-Argument n row)
unfolding type_of
args-are W [] end_of-Argument = refl
args-are W (f ∷ fs) end_of-Argument = refl
args-are W [] (more_of-Argument first rest) = ap (λ b. argument_fits W None first && b) (args-are W [] rest)
args-are W (f ∷ fs) (more_of-Argument first rest) = ap (λ b. argument_fits W (Some f) first && b) (args-are W fs rest)

field-is : {n : _} (row : Row_of-Field n) (name : Name) → row_field row name ≡ list_field (items-the_row-Field n row) name
field-is end_of-Field name = refl
field-is (more_of-Field field type rest) name = ap (λ o. if bytes_eq field name then Some type else o) (field-is rest name)

fields-are : {n : _} (kinds : List Kind) (row : Row_of-Field n) → are_fields kinds row ≡ list_fields kinds (items-the_row-Field n row)
unfolding is_type
fields-are kinds end_of-Field = refl
fields-are kinds (more_of-Field name type rest) =
    ap (λ b. is_type kinds type && (not (is_some (row_field rest name)) && b)) (fields-are kinds rest)
    ∙ ap (λ o. is_type kinds type && (not (is_some o) && list_fields kinds (items-the_row-Field _ rest))) (field-is rest name)

-- Types

pub type-Record : (kinds : List Kind) (fields : List Field) → is_type kinds (t.Record fields) ≡ list_fields kinds fields
unfolding is_type
type-Record kinds fields = fields-are kinds (hidden-the_row-Field-0 fields) ∙ ap (list_fields kinds) (items_hidden-the_row-Field-0 fields)

pub type-Array : (kinds : List Kind) (index : Simple) (item : AnyType) → is_type kinds (t.Array index item) ≡ (is_simple_type kinds index && is_type kinds item)
unfolding is_type shape-the_row-AnyType-1 hidden-the_row-AnyType-1 hidden
type-Array kinds index item = refl

-- Expressions

pub of-Known : (W : Scope) (v : Value) → type_of W (x.Known v) ≡ known_type W.kinds v
unfolding type_of
of-Known W v = refl

pub of-Bound : (W : Scope) (k : ℕ) → type_of W (x.Bound k) ≡ option_map widened (slice_get W.bound k)
unfolding type_of
of-Bound W k = refl

pub of-Read : (W : Scope) (place : Designator) → type_of W (x.Read place) ≡ option_map widened (simple_part (place_type W place))
unfolding type_of
of-Read W place = refl

pub of-IsUndefined : (W : Scope) (place : Designator) → type_of W (x.IsUndefined place) ≡ only_if (is_some (simple_part (place_type W place))) (Some simple.Truth)
unfolding type_of
of-IsUndefined W place = refl

pub of-Call : (W : Scope) (k : ℕ) (args : Arguments) (at : Span) → type_of W (x.Call k args at) ≡ option_and_then (λ r. only_if (arguments_fit W r.formals args) (option_map widened r.result)) (slice_get W.routines k)
unfolding type_of
of-Call W k args at = refl

pub of-Not : (W : Scope) (body : Expr) → type_of W (x.Not body) ≡ only_if (is_of simple.Truth (type_of W body)) (Some simple.Truth)
unfolding type_of shape-the_row-Expr-2 hidden-the_row-Expr-2 hidden
of-Not W body = refl

pub of-Minus : (W : Scope) (body : Expr) → type_of W (x.Minus body) ≡ only_if (is_of numbers (type_of W body)) (Some numbers)
unfolding type_of shape-the_row-Expr-2 hidden-the_row-Expr-2 hidden
of-Minus W body = refl

pub of-Chain : (W : Scope) (first : Expr) (rest : List Link) → type_of W (x.Chain first rest) ≡ list_chain W (type_of W first) rest
unfolding type_of shape-the_row-Expr-2 hidden-the_row-Expr-2 hidden
of-Chain W first rest = links-are W (type_of W first) (hidden-the_row-Link-3 rest) ∙ ap (list_chain W (type_of W first)) (items_hidden-the_row-Link-3 rest)

pub of-Compare : (W : Scope) (op : CompareOp) (left right : Expr) → type_of W (x.Compare op left right) ≡ only_if (comparable op (type_of W left) (type_of W right)) (Some simple.Truth)
unfolding type_of shape-the_row-Expr-2 hidden-the_row-Expr-2 hidden
of-Compare W op left right = refl

pub of-Implies : (W : Scope) (left right : Expr) → type_of W (x.Implies left right) ≡ only_if (is_of simple.Truth (type_of W left) && is_of simple.Truth (type_of W right)) (Some simple.Truth)
unfolding type_of shape-the_row-Expr-2 hidden-the_row-Expr-2 hidden
of-Implies W left right = refl

pub of-Choice : (W : Scope) (test a b : Expr) → type_of W (x.Choice test a b) ≡ only_if (is_of simple.Truth (type_of W test) && comparable compare.Equal (type_of W a) (type_of W b)) (type_of W a)
unfolding type_of shape-the_row-Expr-2 hidden-the_row-Expr-2 hidden
of-Choice W test a b = refl

pub of-Quantified : (W : Scope) (all : Bool) (over : Simple) (body : Expr) → type_of W (x.Quantified all over body) ≡ only_if (is_simple_type W.kinds over && is_of simple.Truth (type_of (binding W over) body)) (Some simple.Truth)
unfolding type_of shape-the_row-Expr-2 hidden-the_row-Expr-2 hidden
of-Quantified W all over body = refl

pub place-Of : (W : Scope) (root : Root) (sels : List Selector) (at : Span) → place_type W (d.Of root sels at) ≡ list_selected W (root_type W root) sels
unfolding type_of
place-Of W root sels at = selectors-are W (root_type W root) (hidden-the_row-Selector-1 sels) ∙ ap (list_selected W (root_type W root)) (items_hidden-the_row-Selector-1 sels)

pub args-Of : (W : Scope) (formals : List Formal) (args : List Argument) → arguments_fit W formals (a.Of args) ≡ list_args W formals args
unfolding type_of
args-Of W formals args = args-are W formals (hidden-the_row-Argument-0 args) ∙ ap (list_args W formals) (items_hidden-the_row-Argument-0 args)
