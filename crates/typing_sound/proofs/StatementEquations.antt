-- What fits of statements, in terms of the parts of which typing makes them: with lists where the trees have rows.
use Rattle.std.proofs.Common.{◌≡◌, ℕ, Bool, true, false, not, ◌&&◌, List, [], ◌∷◌, Option, refl, ap, sym, ◌∙◌}
use Rattle.std.specs.Prelude.{is_some, slice_get}
use Rattle.std.specs.Option.{option_map_or}
use Rattle.murphi_ast.specs.declared.token.Span.{Span}
use Rattle.murphi_typed.specs.declared.types.Simple.{Simple}
use Rattle.murphi_typed.specs.declared.types.Simple.TheVariants as simple
use Rattle.murphi_typed.specs.declared.types.AnyType.{AnyType}
use Rattle.murphi_typed.specs.declared.expr.Expr.{Expr}
use Rattle.murphi_typed.specs.declared.expr.Arguments.{Arguments}
use Rattle.murphi_typed.specs.declared.expr.Designator.{Designator}
use Rattle.murphi_typed.specs.declared.stmt.Arm.{Arm}
use Rattle.murphi_typed.specs.declared.stmt.Case.{Case}
use Rattle.murphi_typed.specs.declared.stmt.Stmt as s
use Rattle.murphi_typed.specs.declared.stmt.Stmt.{Stmt, Row_of-Stmt, end_of-Stmt, more_of-Stmt, Row_of-Arm, end_of-Arm, more_of-Arm, Row_of-Case, end_of-Case, more_of-Case, items-the_row-Stmt, items-the_row-Arm, items-the_row-Case, items_hidden-the_row-Stmt-0, items_hidden-the_row-Arm-1, items_hidden-the_row-Case-2, items_shown-the_row-Stmt-0}
use Rattle.murphi_typed.specs.declared.stmt.Stmt.TheBlock.{hidden-the_row-Stmt-0, hidden-the_row-Arm-1, hidden-the_row-Case-2}
use Rattle.murphi_typed.specs.WellTyped.{Scope, binding, may_write, root_of, is_type, is_simple_type, is_of, same_type, is_function, is_procedure, is_cell_of, holds_values_of, are_alike, labels_fit, returns, type_of, place_type, arguments_fit, stmt_fits, body_fits, arms_fit, cases_fit}

abbrev pub list_body : Scope → List Stmt → Bool
list_body W [] = true
list_body W (first ∷ rest) = stmt_fits W first && list_body W rest

abbrev pub list_arms : Scope → List Arm → Bool
list_arms W [] = true
list_arms W (a ∷ rest) = is_of simple.Truth (type_of W a.test) && (list_body W a.body && list_arms W rest)

abbrev pub list_cases : Scope → Option Simple → List Case → Bool
list_cases W on [] = true
list_cases W on (c ∷ rest) = labels_fit W on c.labels && (list_body W c.body && list_cases W on rest)

body-are : {n : _} (W : Scope) (row : Row_of-Stmt n) → body_fits W row ≡ list_body W (items-the_row-Stmt n row)
unfolding stmt_fits
body-are W end_of-Stmt = refl
body-are W (more_of-Stmt first rest) = ap (λ b. stmt_fits W first && b) (body-are W rest)

arms-are : {n : _} (W : Scope) (row : Row_of-Arm n) → arms_fit W row ≡ list_arms W (items-the_row-Arm n row)
unfolding stmt_fits
arms-are W end_of-Arm = refl
arms-are W (more_of-Arm test sh body rest) =
    ap (λ b. is_of simple.Truth (type_of W test) && (body_fits W body && b)) (arms-are W rest)
    ∙ ap (λ b. is_of simple.Truth (type_of W test) && (b && list_arms W (items-the_row-Arm _ rest)))
    (body-are W body ∙ ap (list_body W) (sym (items_shown-the_row-Stmt-0 sh body)))

cases-are : {n : _} (W : Scope) (on : Option Simple) (row : Row_of-Case n) → cases_fit W on row ≡ list_cases W on (items-the_row-Case n row)
unfolding stmt_fits
cases-are W on end_of-Case = refl
cases-are W on (more_of-Case labels sh body rest) =
    ap (λ b. labels_fit W on labels && (body_fits W body && b)) (cases-are W on rest)
    ∙ ap (λ b. labels_fit W on labels && (b && list_cases W on (items-the_row-Case _ rest)))
    (body-are W body ∙ ap (list_body W) (sym (items_shown-the_row-Stmt-0 sh body)))

hidden-body : (W : Scope) (body : List Stmt) → body_fits W (hidden-the_row-Stmt-0 body) ≡ list_body W body
hidden-body W body = body-are W (hidden-the_row-Stmt-0 body) ∙ ap (list_body W) (items_hidden-the_row-Stmt-0 body)

pub fits-Block : (W : Scope) (body : List Stmt) → stmt_fits W (s.Block body) ≡ list_body W body
unfolding stmt_fits
fits-Block W body = hidden-body W body

pub fits-Assign : (W : Scope) (to : Designator) (into : Simple) (body : Expr) → stmt_fits W (s.Assign to into body) ≡ (may_write W (root_of to) && (is_cell_of into (place_type W to) && is_of into (type_of W body)))
unfolding stmt_fits
fits-Assign W to into body = refl

pub fits-Copy : (W : Scope) (to : Designator) (into : Simple) (from : Designator) → stmt_fits W (s.Copy to into from) ≡ (may_write W (root_of to) && (is_cell_of into (place_type W to) && holds_values_of into (place_type W from)))
unfolding stmt_fits
fits-Copy W to into from = refl

pub fits-CopyAll : (W : Scope) (to from : Designator) → stmt_fits W (s.CopyAll to from) ≡ (may_write W (root_of to) && are_alike (place_type W to) (place_type W from))
unfolding stmt_fits
fits-CopyAll W to from = refl

pub fits-Call : (W : Scope) (k : ℕ) (args : Arguments) (at : Span) → stmt_fits W (s.Call k args at) ≡ (not (is_function W.exit) && option_map_or (λ r. not (is_some r.result) && arguments_fit W r.formals args) (slice_get W.routines k) false)
unfolding stmt_fits
fits-Call W k args at = refl

pub fits-If : (W : Scope) (arms : List Arm) (otherwise : List Stmt) (at : Span) → stmt_fits W (s.If arms otherwise at) ≡ (list_arms W arms && list_body W otherwise)
unfolding stmt_fits
fits-If W arms otherwise at =
    ap (λ b. b && body_fits W (hidden-the_row-Stmt-0 otherwise)) (arms-are W (hidden-the_row-Arm-1 arms) ∙ ap (list_arms W) (items_hidden-the_row-Arm-1 arms))
    ∙ ap (λ b. list_arms W arms && b) (hidden-body W otherwise)

pub fits-Switch : (W : Scope) (on : Expr) (cases : List Case) (otherwise : List Stmt) (at : Span) → stmt_fits W (s.Switch on cases otherwise at) ≡ (is_some (type_of W on) && (list_cases W (type_of W on) cases && list_body W otherwise))
unfolding stmt_fits
fits-Switch W on cases otherwise at =
    ap (λ b. is_some (type_of W on) && (b && body_fits W (hidden-the_row-Stmt-0 otherwise))) (cases-are W (type_of W on) (hidden-the_row-Case-2 cases) ∙ ap (list_cases W (type_of W on)) (items_hidden-the_row-Case-2 cases))
    ∙ ap (λ b. is_some (type_of W on) && (list_cases W (type_of W on) cases && b)) (hidden-body W otherwise)

pub fits-For : (W : Scope) (over : Simple) (body : List Stmt) (at : Span) → stmt_fits W (s.For over body at) ≡ (is_simple_type W.kinds over && list_body (binding W over) body)
unfolding stmt_fits
fits-For W over body at = ap (λ b. is_simple_type W.kinds over && b) (hidden-body (binding W over) body)

pub fits-Clear : (W : Scope) (place : Designator) (type : AnyType) (at : Span) → stmt_fits W (s.Clear place type at) ≡ (may_write W (root_of place) && (is_type W.kinds type && option_map_or (same_type type) (place_type W place) false))
unfolding stmt_fits
fits-Clear W place type at = refl

pub fits-Undefine : (W : Scope) (place : Designator) (at : Span) → stmt_fits W (s.Undefine place at) ≡ (may_write W (root_of place) && is_some (place_type W place))
unfolding stmt_fits
fits-Undefine W place at = refl

pub fits-Error : (W : Scope) (at : Span) → stmt_fits W (s.Error at) ≡ true
unfolding stmt_fits
fits-Error W at = refl

pub fits-Assert : (W : Scope) (test : Expr) (at : Span) → stmt_fits W (s.Assert test at) ≡ is_of simple.Truth (type_of W test)
unfolding stmt_fits
fits-Assert W test at = refl

pub fits-PutText : (W : Scope) (at : Span) → stmt_fits W (s.PutText at) ≡ true
unfolding stmt_fits
fits-PutText W at = refl

pub fits-Put : (W : Scope) (shown : Expr) (at : Span) → stmt_fits W (s.Put shown at) ≡ is_some (type_of W shown)
unfolding stmt_fits
fits-Put W shown at = refl

pub fits-Leave : (W : Scope) (at : Span) → stmt_fits W (s.Leave at) ≡ is_procedure W.exit
unfolding stmt_fits
fits-Leave W at = refl

pub fits-Return : (W : Scope) (body : Expr) (at : Span) → stmt_fits W (s.Return body at) ≡ returns W.exit (type_of W body)
unfolding stmt_fits
fits-Return W body at = refl
