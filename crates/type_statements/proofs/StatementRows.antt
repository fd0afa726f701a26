-- What is found of the rows of statements, over the lists that code reads.
use Rattle.std.proofs.Common.{◌≡◌, List, Option, refl, ap, sym, ◌∙◌}
use Rattle.murphi_ast.specs.declared.stmt.Arm.{Arm}
use Rattle.murphi_ast.specs.declared.stmt.Case.{Case}
use Rattle.murphi_ast.specs.declared.stmt.Stmt.{Stmt, Row_of-Stmt, end_of-Stmt, more_of-Stmt, Row_of-Arm, end_of-Arm, more_of-Arm, Row_of-Case, end_of-Case, more_of-Case, items-the_row-Stmt, items-the_row-Arm, items-the_row-Case, items_hidden-the_row-Stmt-0, items_hidden-the_row-Arm-1, items_hidden-the_row-Case-2, items_shown-the_row-Stmt-0}
use Rattle.murphi_ast.specs.declared.stmt.Stmt.TheBlock.{shown-the_row-Stmt-0, hidden-the_row-Stmt-0, hidden-the_row-Arm-1, hidden-the_row-Case-2}
use Rattle.murphi_typed.specs.declared.types.AnyType.{AnyType}
use Rattle.murphi_types.specs.declared.scope.Known.{Known}
use Rattle.murphi_types.specs.declared.scope.Scope.{Scope}
use Rattle.murphi_types.specs.Places.{place_of}
use Rattle.murphi_types.specs.Fitting.{is_truth}
use Rattle.murphi_types.specs.Found.{wanted}
use Rattle.murphi_types.specs.Typing.{found}
use Rattle.murphi_types.specs.Statements.{Leaving, stmts_made, arm_made, case_made, labels_found, stmt_found, stmts_found, arms_found, cases_found, body_found}
use Rattle.type_statements.specs.StatementLists.{list_arms, list_cases}

row-stmts : {n : _} (l : Leaving) (s : Scope) (k : Known) (row : Row_of-Stmt n) → stmts_found l s k row ≡ body_found l s k (items-the_row-Stmt n row)
unfolding stmt_found
row-stmts l s k end_of-Stmt = refl
row-stmts l s k (more_of-Stmt first rest) =
    let f = stmt_found l s k first in
    ap (stmts_made f) (row-stmts l s f.known rest)

pub stmts-are : (l : Leaving) (s : Scope) (k : Known) (body : List Stmt) → stmts_found l s k (hidden-the_row-Stmt-0 body) ≡ body_found l s k body
stmts-are l s k body = row-stmts l s k (hidden-the_row-Stmt-0 body) ∙ ap (body_found l s k) (items_hidden-the_row-Stmt-0 body)

row-arms : {n : _} (l : Leaving) (s : Scope) (k : Known) (row : Row_of-Arm n) → arms_found l s k row ≡ list_arms l s k (items-the_row-Arm n row)
unfolding stmt_found
row-arms l s k end_of-Arm = refl
row-arms l s k (more_of-Arm test sh body rest) =
    let f = wanted is_truth (place_of test) (found s k test) in
    let b = body_found l s f.known (shown-the_row-Stmt-0 sh body) in
    ap (λ x. arm_made f x (arms_found l s x.known rest)) (row-stmts l s f.known body ∙ ap (body_found l s f.known) (sym (items_shown-the_row-Stmt-0 sh body)))
    ∙ ap (arm_made f b) (row-arms l s b.known rest)

pub arms-are : (l : Leaving) (s : Scope) (k : Known) (arms : List Arm) → arms_found l s k (hidden-the_row-Arm-1 arms) ≡ list_arms l s k arms
arms-are l s k arms = row-arms l s k (hidden-the_row-Arm-1 arms) ∙ ap (list_arms l s k) (items_hidden-the_row-Arm-1 arms)

row-cases : {n : _} (l : Leaving) (s : Scope) (k : Known) (on : Option AnyType) (row : Row_of-Case n) → cases_found l s k on row ≡ list_cases l s k on (items-the_row-Case n row)
unfolding stmt_found
row-cases l s k on end_of-Case = refl
row-cases l s k on (more_of-Case labels sh body rest) =
    let f = labels_found s k on labels in
    let b = body_found l s f.known (shown-the_row-Stmt-0 sh body) in
    ap (λ x. case_made f x (cases_found l s x.known on rest)) (row-stmts l s f.known body ∙ ap (body_found l s f.known) (sym (items_shown-the_row-Stmt-0 sh body)))
    ∙ ap (case_made f b) (row-cases l s b.known on rest)

pub cases-are : (l : Leaving) (s : Scope) (k : Known) (on : Option AnyType) (cases : List Case) → cases_found l s k on (hidden-the_row-Case-2 cases) ≡ list_cases l s k on cases
cases-are l s k on cases = row-cases l s k on (hidden-the_row-Case-2 cases) ∙ ap (list_cases l s k on) (items_hidden-the_row-Case-2 cases)
