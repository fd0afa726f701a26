-- The loops over nodes of each form of statement, in terms of the parts that code reads.
use Rattle.std.proofs.Common.{◌≡◌, ℕ, List, [], ◌∷◌, ◌++◌, refl, sym, ap, ◌∙◌}
use denote.Hole.Carrier.{hidden}
use Rattle.murphi_ast.specs.declared.token.Span.{Span}
use Rattle.murphi_typed.specs.declared.types.Simple.{Simple}
use Rattle.murphi_typed.specs.declared.types.AnyType.{AnyType}
use Rattle.murphi_typed.specs.declared.expr.Expr.{Expr}
use Rattle.murphi_typed.specs.declared.expr.Arguments.{Arguments}
use Rattle.murphi_typed.specs.declared.expr.Designator.{Designator}
use Rattle.murphi_typed.specs.declared.stmt.Arm.{Arm}
use Rattle.murphi_typed.specs.declared.stmt.Case.{Case}
use Rattle.murphi_typed.specs.declared.stmt.Stmt as s
use Rattle.murphi_typed.specs.declared.stmt.Stmt.{Stmt, Row_of-Stmt, end_of-Stmt, more_of-Stmt, Row_of-Arm, end_of-Arm, more_of-Arm, Row_of-Case, end_of-Case, more_of-Case, items-the_row-Stmt, items-the_row-Arm, items-the_row-Case, items_hidden-the_row-Stmt-0, items_hidden-the_row-Arm-1, items_hidden-the_row-Case-2, items_shown-the_row-Stmt-0, the_lemmas}
use Rattle.murphi_typed.specs.declared.stmt.Stmt.TheBlock.{shown-the_row-Stmt-0, hidden-the_row-Stmt-0, hidden-the_row-Arm-1, hidden-the_row-Case-2}
use Rattle.scalarset_rules.specs.Accesses.{Scope, binding, next_binder, stands_of}
use Rattle.scalarset_rules.specs.Pieces.{Around, Within, if_around, list_pieces, loop_pieces, all_loop_pieces, arm_loop_pieces, case_loop_pieces, list_loops, list_arm_loops, list_case_loops}
use Rattle.scalarset_rules.proofs.PlaceEquations.{mapped_joined}
use Rattle.scalarset_rules.proofs.PieceEquations.{nothing_after, after_after}
use Rattle.scalarset_rules.proofs.TouchEquations.{shown_pieces}

row_loops_are : {n : _} (scope : Scope) (row : Row_of-Stmt n) → all_loop_pieces scope row ≡ list_loops scope (items-the_row-Stmt n row)
unfolding loop_pieces
row_loops_are scope end_of-Stmt = refl
row_loops_are scope (more_of-Stmt first rest) = ap (λ ps. loop_pieces scope first ++ ps) (row_loops_are scope rest)

row_arm_loops : {n : _} (scope : Scope) (row : Row_of-Arm n) → arm_loop_pieces scope row ≡ list_arm_loops scope (items-the_row-Arm n row)
unfolding loop_pieces
row_arm_loops scope end_of-Arm = refl
row_arm_loops scope (more_of-Arm test sh body rest) =
    ap (λ ps. ps ++ arm_loop_pieces scope rest) (row_loops_are scope body ∙ ap (list_loops scope) (sym (items_shown-the_row-Stmt-0 sh body)))
    ∙ ap (λ ps. list_loops scope (shown-the_row-Stmt-0 sh body) ++ ps) (row_arm_loops scope rest)

row_case_loops : {n : _} (scope : Scope) (row : Row_of-Case n) → case_loop_pieces scope row ≡ list_case_loops scope (items-the_row-Case n row)
unfolding loop_pieces
row_case_loops scope end_of-Case = refl
row_case_loops scope (more_of-Case labels sh body rest) =
    ap (λ ps. ps ++ case_loop_pieces scope rest) (row_loops_are scope body ∙ ap (list_loops scope) (sym (items_shown-the_row-Stmt-0 sh body)))
    ∙ ap (λ ps. list_loops scope (shown-the_row-Stmt-0 sh body) ++ ps) (row_case_loops scope rest)

shown : (scope : Scope) (body : List Stmt) → all_loop_pieces scope (hidden-the_row-Stmt-0 body) ≡ list_loops scope body
shown scope body = row_loops_are scope (hidden-the_row-Stmt-0 body) ∙ ap (list_loops scope) (items_hidden-the_row-Stmt-0 body)

pub loops-Block : (scope : Scope) (body : List Stmt) → loop_pieces scope (s.Block body) ≡ list_loops scope body
unfolding loop_pieces hidden-the_row-Stmt-0 hidden
loops-Block scope body = shown scope body

pub loops-Call : (scope : Scope) (k : ℕ) (args : Arguments) (at : Span) → loop_pieces scope (s.Call k args at) ≡ Within k (stands_of scope args) at ∷ []
unfolding loop_pieces
loops-Call scope k args at = refl

pub loops-If : (scope : Scope) (arms : List Arm) (otherwise : List Stmt) (at : Span) → loop_pieces scope (s.If arms otherwise at) ≡ list_arm_loops scope arms ++ list_loops scope otherwise
unfolding loop_pieces hidden-the_row-Stmt-0 hidden-the_row-Arm-1 hidden
loops-If scope arms otherwise at =
    ap (λ ps. ps ++ all_loop_pieces scope (hidden-the_row-Stmt-0 otherwise)) (row_arm_loops scope (hidden-the_row-Arm-1 arms) ∙ ap (list_arm_loops scope) (items_hidden-the_row-Arm-1 arms))
    ∙ ap (λ ps. list_arm_loops scope arms ++ ps) (shown scope otherwise)

pub loops-Switch : (scope : Scope) (on : Expr) (cases : List Case) (otherwise : List Stmt) (at : Span) → loop_pieces scope (s.Switch on cases otherwise at) ≡ list_case_loops scope cases ++ list_loops scope otherwise
unfolding loop_pieces hidden-the_row-Stmt-0 hidden-the_row-Case-2 hidden
loops-Switch scope on cases otherwise at =
    ap (λ ps. ps ++ all_loop_pieces scope (hidden-the_row-Stmt-0 otherwise)) (row_case_loops scope (hidden-the_row-Case-2 cases) ∙ ap (list_case_loops scope) (items_hidden-the_row-Case-2 cases))
    ∙ ap (λ ps. list_case_loops scope cases ++ ps) (shown scope otherwise)

pub loops-For : (scope : Scope) (over : Simple) (body : List Stmt) (at : Span) → loop_pieces scope (s.For over body at) ≡ if_around over (Around (next_binder scope) (list_pieces (binding scope) body)) (list_loops (binding scope) body)
unfolding loop_pieces hidden-the_row-Stmt-0 hidden
loops-For scope over body at =
    ap (λ ps. if_around over (Around (next_binder scope) ps) (all_loop_pieces (binding scope) (hidden-the_row-Stmt-0 body))) (shown_pieces (binding scope) body)
    ∙ ap (if_around over (Around (next_binder scope) (list_pieces (binding scope) body))) (shown (binding scope) body)

pub loops-Assign : (scope : Scope) (to : Designator) (into : Simple) (e : Expr) → loop_pieces scope (s.Assign to into e) ≡ []
unfolding loop_pieces
loops-Assign scope to into e = refl

pub loops-Copy : (scope : Scope) (to : Designator) (into : Simple) (from : Designator) → loop_pieces scope (s.Copy to into from) ≡ []
unfolding loop_pieces
loops-Copy scope to into from = refl

pub loops-CopyAll : (scope : Scope) (to from : Designator) → loop_pieces scope (s.CopyAll to from) ≡ []
unfolding loop_pieces
loops-CopyAll scope to from = refl

pub loops-Clear : (scope : Scope) (place : Designator) (type : AnyType) (at : Span) → loop_pieces scope (s.Clear place type at) ≡ []
unfolding loop_pieces
loops-Clear scope place type at = refl

pub loops-Undefine : (scope : Scope) (place : Designator) (at : Span) → loop_pieces scope (s.Undefine place at) ≡ []
unfolding loop_pieces
loops-Undefine scope place at = refl

pub loops-Error : (scope : Scope) (at : Span) → loop_pieces scope (s.Error at) ≡ []
unfolding loop_pieces
loops-Error scope at = refl

pub loops-Assert : (scope : Scope) (e : Expr) (at : Span) → loop_pieces scope (s.Assert e at) ≡ []
unfolding loop_pieces
loops-Assert scope e at = refl

pub loops-PutText : (scope : Scope) (at : Span) → loop_pieces scope (s.PutText at) ≡ []
unfolding loop_pieces
loops-PutText scope at = refl

pub loops-Put : (scope : Scope) (e : Expr) (at : Span) → loop_pieces scope (s.Put e at) ≡ []
unfolding loop_pieces
loops-Put scope e at = refl

pub loops-Leave : (scope : Scope) (at : Span) → loop_pieces scope (s.Leave at) ≡ []
unfolding loop_pieces
loops-Leave scope at = refl

pub loops-Return : (scope : Scope) (e : Expr) (at : Span) → loop_pieces scope (s.Return e at) ≡ []
unfolding loop_pieces
loops-Return scope e at = refl

pub ruleset loops = (mapped_joined, nothing_after, after_after, loops-Block, loops-Call, loops-If, loops-Switch, loops-For, loops-Assign, loops-Copy, loops-CopyAll, loops-Clear, loops-Undefine, loops-Error, loops-Assert, loops-PutText, loops-Put, loops-Leave, loops-Return, the_lemmas)
