-- What code gives of each statement, from what it gives of the parts; and what is declared after it.
use Rattle.std.proofs.Common.{◌≡◌, List, Option, None, refl, ap, ◌∙◌}
use Rattle.murphi_ast.specs.declared.token.Span.{Span}
use Rattle.murphi_ast.specs.declared.expr.Named.{Named}
use Rattle.murphi_ast.specs.declared.expr.Bind.{Bind}
use Rattle.murphi_ast.specs.declared.expr.Designator.{Designator}
use Rattle.murphi_ast.specs.declared.expr.Expr.{Expr}
use Rattle.murphi_ast.specs.declared.stmt.Arm.{Arm}
use Rattle.murphi_ast.specs.declared.stmt.Case.{Case}
use Rattle.murphi_ast.specs.declared.stmt.Stmt as w
use Rattle.murphi_ast.specs.declared.stmt.Stmt.{Stmt, the_lemmas}
use Rattle.murphi_ast.specs.declared.stmt.Stmt.TheBlock.{hidden-the_row-Stmt-0}
use Rattle.murphi_typed.specs.declared.stmt.Stmt as typed
use Rattle.murphi_types.specs.declared.scope.Known.{Known}
use Rattle.murphi_types.specs.declared.scope.Scope.{Scope}
use Rattle.murphi_types.specs.Places.{place_of, type_place_of}
use Rattle.murphi_types.specs.Scopes.{binding}
use Rattle.murphi_types.specs.Fitting.{fits, is_simple, simple_part}
use Rattle.murphi_types.specs.Found.{wanted}
use Rattle.murphi_types.specs.Types.{Unnamed, simple_wanted}
use Rattle.murphi_types.specs.Typing.{found, type_found}
use Rattle.murphi_types.specs.Statements.{Leaving, FoundStmts, stmt_found, stmts_found, body_found, if_made, switch_made, for_made}
use Rattle.type_parts.specs.Judging.{kept}
use Rattle.type_forms.specs.Writing.{simply}
use Rattle.type_expressions.specs.PartsGiven.{part_of, type_part}
use Rattle.type_expressions.proofs.PartLemmas.{kept-is, simple-is}
use Rattle.type_statements.specs.Stating.{judged_stmt, judged_stmts, judged_cases, one_judged, if_judged, switch_judged, for_judged}
use Rattle.type_statements.specs.StatementsGiven.{stmts_part, arms_part, cases_part, stmt_part, assign_given, call_given, clear_given, undefine_given, assert_given, put_given, leave_given}
use Rattle.type_statements.specs.StatementLists.{list_arms, list_cases}
use Rattle.type_statements.proofs.StepLemmas.{if-is, switch-is, for-is}
use Rattle.type_statements.proofs.StatementRows.{stmts-are, arms-are, cases-are}

-- Statements that have no others in them

pub arm-Assign : (l : Leaving) (s : Scope) (k : Known) (to : Designator) (v : Expr) → stmt_part (stmt_found l s k (w.Assign to v)) ≡ stmt_part (assign_given s k to v)
unfolding stmt_found assign_given
arm-Assign l s k to v = refl

pub known-Assign : (l : Leaving) (s : Scope) (k : Known) (to : Designator) (v : Expr) → (stmt_found l s k (w.Assign to v)).known ≡ (assign_given s k to v).known
unfolding stmt_found assign_given
known-Assign l s k to v = refl

pub arm-Called : (l : Leaving) (s : Scope) (k : Known) (name : Named) (args : List Expr) → stmt_part (stmt_found l s k (w.Call name args)) ≡ stmt_part (call_given s k name args)
unfolding stmt_found call_given
arm-Called l s k name args = refl

pub known-Called : (l : Leaving) (s : Scope) (k : Known) (name : Named) (args : List Expr) → (stmt_found l s k (w.Call name args)).known ≡ (call_given s k name args).known
unfolding stmt_found call_given
known-Called l s k name args = refl

pub arm-Cleared : (l : Leaving) (s : Scope) (k : Known) (d : Designator) (at : Span) → stmt_part (stmt_found l s k (w.Clear d at)) ≡ stmt_part (clear_given s k d at)
unfolding stmt_found clear_given
arm-Cleared l s k d at = refl

pub known-Cleared : (l : Leaving) (s : Scope) (k : Known) (d : Designator) (at : Span) → (stmt_found l s k (w.Clear d at)).known ≡ (clear_given s k d at).known
unfolding stmt_found clear_given
known-Cleared l s k d at = refl

pub arm-Undefined : (l : Leaving) (s : Scope) (k : Known) (d : Designator) (at : Span) → stmt_part (stmt_found l s k (w.Undefine d at)) ≡ stmt_part (undefine_given s k d at)
unfolding stmt_found undefine_given
arm-Undefined l s k d at = refl

pub known-Undefined : (l : Leaving) (s : Scope) (k : Known) (d : Designator) (at : Span) → (stmt_found l s k (w.Undefine d at)).known ≡ (undefine_given s k d at).known
unfolding stmt_found undefine_given
known-Undefined l s k d at = refl

pub arm-Error : (l : Leaving) (s : Scope) (k : Known) (at : Span) → stmt_part (stmt_found l s k (w.Error at)) ≡ one_judged (typed.Error at) 0 None
unfolding stmt_found stmt_part
arm-Error l s k at = refl

pub known-Error : (l : Leaving) (s : Scope) (k : Known) (at : Span) → (stmt_found l s k (w.Error at)).known ≡ k
unfolding stmt_found
known-Error l s k at = refl

pub arm-Asserted : (l : Leaving) (s : Scope) (k : Known) (b : Expr) (at : Span) → stmt_part (stmt_found l s k (w.Assert b at)) ≡ stmt_part (assert_given s k b at)
unfolding stmt_found assert_given
arm-Asserted l s k b at = refl

pub known-Asserted : (l : Leaving) (s : Scope) (k : Known) (b : Expr) (at : Span) → (stmt_found l s k (w.Assert b at)).known ≡ (assert_given s k b at).known
unfolding stmt_found assert_given
known-Asserted l s k b at = refl

pub arm-Shown : (l : Leaving) (s : Scope) (k : Known) (v : Option Expr) (at : Span) → stmt_part (stmt_found l s k (w.Put v at)) ≡ stmt_part (put_given s k v at)
unfolding stmt_found put_given
arm-Shown l s k v at = refl

pub known-Shown : (l : Leaving) (s : Scope) (k : Known) (v : Option Expr) (at : Span) → (stmt_found l s k (w.Put v at)).known ≡ (put_given s k v at).known
unfolding stmt_found put_given
known-Shown l s k v at = refl

pub arm-Return : (l : Leaving) (s : Scope) (k : Known) (v : Option Expr) (at : Span) → stmt_part (stmt_found l s k (w.Return v at)) ≡ stmt_part (leave_given l s k v at)
unfolding stmt_found leave_given
arm-Return l s k v at = refl

pub known-Return : (l : Leaving) (s : Scope) (k : Known) (v : Option Expr) (at : Span) → (stmt_found l s k (w.Return v at)).known ≡ (leave_given l s k v at).known
unfolding stmt_found leave_given
known-Return l s k v at = refl

-- `if`

found-If : (l : Leaving) (s : Scope) (k : Known) (arms : List Arm) (rest : List Stmt) (at : Span) → stmt_found l s k (w.If arms rest at) ≡ if_made at (list_arms l s k arms) (body_found l s (list_arms l s k arms).known rest)
unfolding stmt_found
found-If l s k arms rest at =
    let f = list_arms l s k arms in
    ap (λ x. if_made at x (stmts_found l s x.known (hidden-the_row-Stmt-0 rest))) (arms-are l s k arms)
    ∙ ap (if_made at f) (stmts-are l s f.known rest)

pub arm-If : (l : Leaving) (s : Scope) (k : Known) (arms : List Arm) (rest : List Stmt) (at : Span) → stmt_part (stmt_found l s k (w.If arms rest at)) ≡ if_judged at (arms_part (list_arms l s k arms)) (stmts_part (body_found l s (list_arms l s k arms).known rest))
unfolding stmt_part stmts_part arms_part
arm-If l s k arms rest at =
    let f = list_arms l s k arms in
    ap judged_stmt (found-If l s k arms rest at) ∙ if-is at f (body_found l s f.known rest)

pub known-If : (l : Leaving) (s : Scope) (k : Known) (arms : List Arm) (rest : List Stmt) (at : Span) → (stmt_found l s k (w.If arms rest at)).known ≡ (body_found l s (list_arms l s k arms).known rest).known
known-If l s k arms rest at = ap (λ (f : FoundStmts). f.known) (found-If l s k arms rest at)

-- `switch`

found-Switch : (l : Leaving) (s : Scope) (k : Known) (on : Expr) (cases : List Case) (rest : List Stmt) (at : Span) →
    (let f = wanted is_simple (place_of on) (found s k on) in let g = list_cases l s f.known f.type cases in stmt_found l s k (w.Switch on cases rest at) ≡ switch_made at f g (body_found l s g.known rest))
unfolding stmt_found
found-Switch l s k on cases rest at =
    let f = wanted is_simple (place_of on) (found s k on) in
    let g = list_cases l s f.known f.type cases in
    ap (λ x. switch_made at f x (stmts_found l s x.known (hidden-the_row-Stmt-0 rest))) (cases-are l s f.known f.type cases)
    ∙ ap (switch_made at f g) (stmts-are l s g.known rest)

pub arm-Switch : (l : Leaving) (s : Scope) (k : Known) (on : Expr) (cases : List Case) (rest : List Stmt) (at : Span) → stmt_part (stmt_found l s k (w.Switch on cases rest at)) ≡ switch_judged at (kept (fits is_simple (part_of (found s k on)).of) (place_of on) (part_of (found s k on))) (cases_part (list_cases l s (found s k on).known (kept (fits is_simple (part_of (found s k on)).of) (place_of on) (part_of (found s k on))).of cases)) (stmts_part (body_found l s (list_cases l s (found s k on).known (kept (fits is_simple (part_of (found s k on)).of) (place_of on) (part_of (found s k on))).of cases).known rest))
unfolding stmt_part stmts_part cases_part part_of
arm-Switch l s k on cases rest at =
    let f = wanted is_simple (place_of on) (found s k on) in
    let g = list_cases l s f.known f.type cases in
    let h = body_found l s g.known rest in
    ap judged_stmt (found-Switch l s k on cases rest at)
    ∙ switch-is at f g h
    ∙ ap (λ j. switch_judged at j (judged_cases g) (judged_stmts h)) (kept-is is_simple (place_of on) (found s k on))

pub known-Switch : (l : Leaving) (s : Scope) (k : Known) (on : Expr) (cases : List Case) (rest : List Stmt) (at : Span) → (stmt_found l s k (w.Switch on cases rest at)).known ≡ (body_found l s (list_cases l s (found s k on).known (kept (fits is_simple (part_of (found s k on)).of) (place_of on) (part_of (found s k on))).of cases).known rest).known
unfolding part_of
known-Switch l s k on cases rest at = ap (λ (f : FoundStmts). f.known) (found-Switch l s k on cases rest at)

-- `for`

found-For : (l : Leaving) (s : Scope) (k : Known) (bind : Bind) (body : List Stmt) (at : Span) →
    (let f = simple_wanted (type_place_of bind.over) (type_found s k Unnamed bind.over) in stmt_found l s k (w.For bind body at) ≡ for_made at f (body_found l (binding s bind.name.name (simple_part f.type)) f.known body))
unfolding stmt_found
found-For l s k bind body at =
    let f = simple_wanted (type_place_of bind.over) (type_found s k Unnamed bind.over) in
    ap (for_made at f) (stmts-are l (binding s bind.name.name (simple_part f.type)) f.known body)

pub arm-For : (l : Leaving) (s : Scope) (k : Known) (bind : Bind) (body : List Stmt) (at : Span) → stmt_part (stmt_found l s k (w.For bind body at)) ≡ for_judged at (simply (type_place_of bind.over) (type_part (type_found s k Unnamed bind.over))) (stmts_part (body_found l (binding s bind.name.name (simple_part (simply (type_place_of bind.over) (type_part (type_found s k Unnamed bind.over))).of)) (type_found s k Unnamed bind.over).known body))
unfolding stmt_part stmts_part type_part
arm-For l s k bind body at =
    let T = type_found s k Unnamed bind.over in
    let f = simple_wanted (type_place_of bind.over) T in
    let g = body_found l (binding s bind.name.name (simple_part f.type)) f.known body in
    ap judged_stmt (found-For l s k bind body at)
    ∙ for-is at f g
    ∙ ap (λ j. for_judged at j (judged_stmts g)) (simple-is (type_place_of bind.over) T)

pub known-For : (l : Leaving) (s : Scope) (k : Known) (bind : Bind) (body : List Stmt) (at : Span) → (stmt_found l s k (w.For bind body at)).known ≡ (body_found l (binding s bind.name.name (simple_part (simply (type_place_of bind.over) (type_part (type_found s k Unnamed bind.over))).of)) (type_found s k Unnamed bind.over).known body).known
unfolding type_part
known-For l s k bind body at = ap (λ (f : FoundStmts). f.known) (found-For l s k bind body at)

pub ruleset arms = (arm-Assign, known-Assign, arm-Called, known-Called, arm-Cleared, known-Cleared, arm-Undefined, known-Undefined, arm-Error, known-Error, arm-Asserted, known-Asserted, arm-Shown, known-Shown, arm-Return, known-Return, arm-If, known-If, arm-Switch, known-Switch, arm-For, known-For, the_lemmas)
