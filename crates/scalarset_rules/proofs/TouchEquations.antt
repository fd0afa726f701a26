-- What each form of statement reads, writes and calls, in terms of the parts that code reads.
use Rattle.std.proofs.Common.{◌≡◌, ℕ, Bool, true, false, List, [], ◌∷◌, ◌++◌, refl, sym, ap, ◌∙◌}
use Rattle.std.specs.List.{flat_map}
use denote.Hole.Carrier.{hidden}
use Rattle.murphi_ast.specs.declared.token.Span.{Span}
use Rattle.murphi_typed.specs.declared.types.Simple.{Simple}
use Rattle.murphi_typed.specs.declared.types.AnyType.{AnyType}
use Rattle.murphi_typed.specs.declared.expr.Expr.{Expr}
use Rattle.murphi_typed.specs.declared.expr.Arguments.{Arguments}
use Rattle.murphi_typed.specs.declared.expr.Designator.{Designator}
use Rattle.murphi_typed.specs.declared.stmt.Arm.{Arm}
use Rattle.murphi_typed.specs.declared.stmt.Case.{Case}
use Rattle.murphi_typed.specs.declared.stmt.Stmt as s
use Rattle.murphi_typed.specs.declared.stmt.Stmt.{Stmt, Row_of-Stmt, end_of-Stmt, more_of-Stmt, Row_of-Arm, end_of-Arm, more_of-Arm, Row_of-Case, end_of-Case, more_of-Case, items-the_row-Stmt, items-the_row-Arm, items-the_row-Case, items_hidden-the_row-Stmt-0, items_hidden-the_row-Arm-1, items_hidden-the_row-Case-2, items_shown-the_row-Stmt-0, the_lemmas}
use Rattle.murphi_typed.specs.declared.stmt.Stmt.TheBlock.{shown-the_row-Stmt-0, hidden-the_row-Stmt-0, hidden-the_row-Arm-1, hidden-the_row-Case-2}
use Rattle.scalarset_rules.specs.Accesses.{Scope, binding, stands_of, accessed}
use Rattle.scalarset_rules.specs.Pieces.{Touch, Enter, read_pieces, argument_pieces, index_pieces, touch_place, pieces, all_pieces, arm_pieces, case_pieces, list_pieces, list_arms, list_cases}
use Rattle.scalarset_rules.proofs.PlaceEquations.{mapped_joined}
use Rattle.scalarset_rules.proofs.PieceEquations.{nothing_after, after_after}

mutual
  unfolding pieces

  row_pieces_are : {n : _} (scope : Scope) (row : Row_of-Stmt n) → all_pieces scope row ≡ list_pieces scope (items-the_row-Stmt n row)
  row_pieces_are scope end_of-Stmt = refl
  row_pieces_are scope (more_of-Stmt first rest) = ap (λ ps. pieces scope first ++ ps) (row_pieces_are scope rest)

row_arms_are : {n : _} (scope : Scope) (row : Row_of-Arm n) → arm_pieces scope row ≡ list_arms scope (items-the_row-Arm n row)
unfolding pieces
row_arms_are scope end_of-Arm = refl
row_arms_are scope (more_of-Arm test sh body rest) =
    ap (λ ps. read_pieces scope test ++ (ps ++ arm_pieces scope rest)) (row_pieces_are scope body ∙ ap (list_pieces scope) (sym (items_shown-the_row-Stmt-0 sh body)))
    ∙ ap (λ ps. read_pieces scope test ++ (list_pieces scope (shown-the_row-Stmt-0 sh body) ++ ps)) (row_arms_are scope rest)

row_cases_are : {n : _} (scope : Scope) (row : Row_of-Case n) → case_pieces scope row ≡ list_cases scope (items-the_row-Case n row)
unfolding pieces
row_cases_are scope end_of-Case = refl
row_cases_are scope (more_of-Case labels sh body rest) =
    ap (λ ps. flat_map (read_pieces scope) labels ++ (ps ++ case_pieces scope rest)) (row_pieces_are scope body ∙ ap (list_pieces scope) (sym (items_shown-the_row-Stmt-0 sh body)))
    ∙ ap (λ ps. flat_map (read_pieces scope) labels ++ (list_pieces scope (shown-the_row-Stmt-0 sh body) ++ ps)) (row_cases_are scope rest)

pub shown_pieces : (scope : Scope) (body : List Stmt) → all_pieces scope (hidden-the_row-Stmt-0 body) ≡ list_pieces scope body
shown_pieces scope body = row_pieces_are scope (hidden-the_row-Stmt-0 body) ∙ ap (list_pieces scope) (items_hidden-the_row-Stmt-0 body)

pub pieces-Block : (scope : Scope) (body : List Stmt) → pieces scope (s.Block body) ≡ list_pieces scope body
unfolding pieces hidden-the_row-Stmt-0 hidden
pieces-Block scope body = shown_pieces scope body

pub pieces-Assign : (scope : Scope) (to : Designator) (into : Simple) (e : Expr) → pieces scope (s.Assign to into e) ≡ touch_place true scope to ++ read_pieces scope e
unfolding pieces
pieces-Assign scope to into e = refl

pub pieces-Copy : (scope : Scope) (to : Designator) (into : Simple) (from : Designator) → pieces scope (s.Copy to into from) ≡ touch_place true scope to ++ touch_place false scope from
unfolding pieces
pieces-Copy scope to into from = refl

pub pieces-CopyAll : (scope : Scope) (to from : Designator) → pieces scope (s.CopyAll to from) ≡ touch_place true scope to ++ touch_place false scope from
unfolding pieces
pieces-CopyAll scope to from = refl

pub pieces-Call : (scope : Scope) (k : ℕ) (args : Arguments) (at : Span) → pieces scope (s.Call k args at) ≡ argument_pieces scope args ++ Enter k (stands_of scope args) at ∷ []
unfolding pieces
pieces-Call scope k args at = refl

pub pieces-If : (scope : Scope) (arms : List Arm) (otherwise : List Stmt) (at : Span) → pieces scope (s.If arms otherwise at) ≡ list_arms scope arms ++ list_pieces scope otherwise
unfolding pieces hidden-the_row-Stmt-0 hidden-the_row-Arm-1 hidden
pieces-If scope arms otherwise at =
    ap (λ ps. ps ++ all_pieces scope (hidden-the_row-Stmt-0 otherwise)) (row_arms_are scope (hidden-the_row-Arm-1 arms) ∙ ap (list_arms scope) (items_hidden-the_row-Arm-1 arms))
    ∙ ap (λ ps. list_arms scope arms ++ ps) (shown_pieces scope otherwise)

pub pieces-Switch : (scope : Scope) (on : Expr) (cases : List Case) (otherwise : List Stmt) (at : Span) → pieces scope (s.Switch on cases otherwise at) ≡ read_pieces scope on ++ (list_cases scope cases ++ list_pieces scope otherwise)
unfolding pieces hidden-the_row-Stmt-0 hidden-the_row-Case-2 hidden
pieces-Switch scope on cases otherwise at =
    ap (λ ps. read_pieces scope on ++ (ps ++ all_pieces scope (hidden-the_row-Stmt-0 otherwise))) (row_cases_are scope (hidden-the_row-Case-2 cases) ∙ ap (list_cases scope) (items_hidden-the_row-Case-2 cases))
    ∙ ap (λ ps. read_pieces scope on ++ (list_cases scope cases ++ ps)) (shown_pieces scope otherwise)

pub pieces-For : (scope : Scope) (over : Simple) (body : List Stmt) (at : Span) → pieces scope (s.For over body at) ≡ list_pieces (binding scope) body
unfolding pieces hidden-the_row-Stmt-0 hidden
pieces-For scope over body at = shown_pieces (binding scope) body

pub pieces-Clear : (scope : Scope) (place : Designator) (type : AnyType) (at : Span) → pieces scope (s.Clear place type at) ≡ touch_place true scope place
unfolding pieces
pieces-Clear scope place type at = refl

pub pieces-Undefine : (scope : Scope) (place : Designator) (at : Span) → pieces scope (s.Undefine place at) ≡ touch_place true scope place
unfolding pieces
pieces-Undefine scope place at = refl

pub pieces-Error : (scope : Scope) (at : Span) → pieces scope (s.Error at) ≡ []
unfolding pieces
pieces-Error scope at = refl

pub pieces-Assert : (scope : Scope) (e : Expr) (at : Span) → pieces scope (s.Assert e at) ≡ read_pieces scope e
unfolding pieces
pieces-Assert scope e at = refl

pub pieces-PutText : (scope : Scope) (at : Span) → pieces scope (s.PutText at) ≡ []
unfolding pieces
pieces-PutText scope at = refl

pub pieces-Put : (scope : Scope) (e : Expr) (at : Span) → pieces scope (s.Put e at) ≡ []
unfolding pieces
pieces-Put scope e at = refl

pub pieces-Leave : (scope : Scope) (at : Span) → pieces scope (s.Leave at) ≡ []
unfolding pieces
pieces-Leave scope at = refl

pub pieces-Return : (scope : Scope) (e : Expr) (at : Span) → pieces scope (s.Return e at) ≡ read_pieces scope e
unfolding pieces
pieces-Return scope e at = refl

pub touch-Is : (write : Bool) (scope : Scope) (place : Designator) → touch_place write scope place ≡ Touch (accessed write scope place) ∷ [] ++ index_pieces scope place
touch-Is write scope place = refl

pub ruleset touches = (mapped_joined, nothing_after, after_after, touch-Is, pieces-Block, pieces-Assign, pieces-Copy, pieces-CopyAll, pieces-Call, pieces-If, pieces-Switch, pieces-For, pieces-Clear, pieces-Undefine, pieces-Error, pieces-Assert, pieces-PutText, pieces-Put, pieces-Leave, pieces-Return, the_lemmas)
