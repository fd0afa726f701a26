-- The walk over each form of statement, in terms of the parts that code reads.
use Rattle.std.proofs.Common.{◌≡◌, ℕ, ◌+◌, List, [], ◌∷◌, refl, ap, sym, ◌∙◌}
use denote.Hole.Carrier.{hidden}
use Rattle.murphi_ast.specs.declared.token.Span.{Span}
use Rattle.murphi_typed.specs.declared.types.Simple.{Simple}
use Rattle.murphi_typed.specs.declared.types.AnyType.{AnyType}
use Rattle.murphi_typed.specs.declared.expr.Expr.{Expr}
use Rattle.murphi_typed.specs.declared.expr.Arguments.{Arguments}
use Rattle.murphi_typed.specs.declared.expr.Designator.{Designator}
use Rattle.murphi_typed.specs.declared.stmt.Arm.{Arm}
use Rattle.murphi_typed.specs.declared.stmt.Case.{Case}
use Rattle.murphi_typed.specs.declared.stmt.Stmt as s
use Rattle.murphi_typed.specs.declared.stmt.Stmt.{Stmt, Row_of-Stmt, end_of-Stmt, more_of-Stmt, Row_of-Arm, end_of-Arm, more_of-Arm, Row_of-Case, end_of-Case, more_of-Case, items-the_row-Stmt, items-the_row-Arm, items-the_row-Case, items_hidden-the_row-Stmt-0, items_hidden-the_row-Arm-1, items_hidden-the_row-Case-2, items_shown-the_row-Stmt-0, the_lemmas}
use Rattle.murphi_typed.specs.declared.stmt.Stmt.TheBlock.{shown-the_row-Stmt-0, hidden-the_row-Stmt-0, hidden-the_row-Arm-1, hidden-the_row-Case-2}
use Rattle.murphi_typed.specs.Prefix.{level}
use Rattle.type_prefixes.specs.declared.depth.Depth.{Depth}
use Rattle.type_prefixes.specs.Summaries.{called, touched}
use Rattle.type_prefixes.specs.Walks.{walked, place_walked, args_walked, labels_walked, stmt_walked, body_walked, arms_walked, cases_walked}
use Rattle.type_prefixes.specs.WalkLists.{list_stmts, list_arms, list_cases}

body-are : {m : _} (cs : List Depth) (row : Row_of-Stmt m) (n : ℕ) (S : Depth) → body_walked cs row n S ≡ list_stmts cs (items-the_row-Stmt m row) n S
unfolding stmt_walked
body-are cs end_of-Stmt n S = refl
body-are cs (more_of-Stmt first rest) n S = body-are cs rest n (stmt_walked cs first n S)

arms-are : {m : _} (cs : List Depth) (row : Row_of-Arm m) (n : ℕ) (S : Depth) → arms_walked cs row n S ≡ list_arms cs (items-the_row-Arm m row) n S
unfolding stmt_walked
arms-are cs end_of-Arm n S = refl
arms-are cs (more_of-Arm test sh body rest) n S =
    arms-are cs rest n (body_walked cs body n (walked cs test n S))
    ∙ ap (list_arms cs (items-the_row-Arm _ rest) n)
    (body-are cs body n (walked cs test n S) ∙ ap (λ b. list_stmts cs b n (walked cs test n S)) (sym (items_shown-the_row-Stmt-0 sh body)))

cases-are : {m : _} (cs : List Depth) (row : Row_of-Case m) (n : ℕ) (S : Depth) → cases_walked cs row n S ≡ list_cases cs (items-the_row-Case m row) n S
unfolding stmt_walked
cases-are cs end_of-Case n S = refl
cases-are cs (more_of-Case labels sh body rest) n S =
    cases-are cs rest n (body_walked cs body n (labels_walked cs labels n S))
    ∙ ap (list_cases cs (items-the_row-Case _ rest) n)
    (body-are cs body n (labels_walked cs labels n S) ∙ ap (λ b. list_stmts cs b n (labels_walked cs labels n S)) (sym (items_shown-the_row-Stmt-0 sh body)))

hidden-body : (cs : List Depth) (body : List Stmt) (n : ℕ) (S : Depth) → body_walked cs (hidden-the_row-Stmt-0 body) n S ≡ list_stmts cs body n S
hidden-body cs body n S = body-are cs (hidden-the_row-Stmt-0 body) n S ∙ ap (λ b. list_stmts cs b n S) (items_hidden-the_row-Stmt-0 body)

pub walk-Block : (cs : List Depth) (body : List Stmt) (n : ℕ) (S : Depth) → stmt_walked cs (s.Block body) n S ≡ list_stmts cs body n S
unfolding stmt_walked
walk-Block cs body n S = hidden-body cs body n S

pub walk-Assign : (cs : List Depth) (to : Designator) (into : Simple) (body : Expr) (n : ℕ) (S : Depth) → stmt_walked cs (s.Assign to into body) n S ≡ walked cs body n (place_walked cs to n S)
unfolding stmt_walked
walk-Assign cs to into body n S = refl

pub walk-Copy : (cs : List Depth) (to : Designator) (into : Simple) (from : Designator) (n : ℕ) (S : Depth) → stmt_walked cs (s.Copy to into from) n S ≡ place_walked cs from n (place_walked cs to n S)
unfolding stmt_walked
walk-Copy cs to into from n S = refl

pub walk-CopyAll : (cs : List Depth) (to from : Designator) (n : ℕ) (S : Depth) → stmt_walked cs (s.CopyAll to from) n S ≡ place_walked cs from n (place_walked cs to n S)
unfolding stmt_walked
walk-CopyAll cs to from n S = refl

pub walk-Procedure : (cs : List Depth) (k : ℕ) (args : Arguments) (at : Span) (n : ℕ) (S : Depth) → stmt_walked cs (s.Call k args at) n S ≡ args_walked cs (called cs k).formals args n (touched (n + (called cs k).own) S)
unfolding stmt_walked
walk-Procedure cs k args at n S = refl

pub walk-If : (cs : List Depth) (arms : List Arm) (otherwise : List Stmt) (at : Span) (n : ℕ) (S : Depth) → stmt_walked cs (s.If arms otherwise at) n S ≡ list_stmts cs otherwise n (list_arms cs arms n S)
unfolding stmt_walked
walk-If cs arms otherwise at n S =
    hidden-body cs otherwise n (arms_walked cs (hidden-the_row-Arm-1 arms) n S)
    ∙ ap (list_stmts cs otherwise n) (arms-are cs (hidden-the_row-Arm-1 arms) n S ∙ ap (λ l. list_arms cs l n S) (items_hidden-the_row-Arm-1 arms))

pub walk-Switch : (cs : List Depth) (on : Expr) (cases : List Case) (otherwise : List Stmt) (at : Span) (n : ℕ) (S : Depth) → stmt_walked cs (s.Switch on cases otherwise at) n S ≡ list_stmts cs otherwise n (list_cases cs cases n (walked cs on n S))
unfolding stmt_walked
walk-Switch cs on cases otherwise at n S =
    hidden-body cs otherwise n (cases_walked cs (hidden-the_row-Case-2 cases) n (walked cs on n S))
    ∙ ap (list_stmts cs otherwise n) (cases-are cs (hidden-the_row-Case-2 cases) n (walked cs on n S) ∙ ap (λ l. list_cases cs l n (walked cs on n S)) (items_hidden-the_row-Case-2 cases))

pub walk-For : (cs : List Depth) (over : Simple) (body : List Stmt) (at : Span) (n : ℕ) (S : Depth) → stmt_walked cs (s.For over body at) n S ≡ list_stmts cs body (level over n) S
unfolding stmt_walked
walk-For cs over body at n S = hidden-body cs body (level over n) S

pub walk-Clear : (cs : List Depth) (place : Designator) (type : AnyType) (at : Span) (n : ℕ) (S : Depth) → stmt_walked cs (s.Clear place type at) n S ≡ place_walked cs place n S
unfolding stmt_walked
walk-Clear cs place type at n S = refl

pub walk-Undefine : (cs : List Depth) (place : Designator) (at : Span) (n : ℕ) (S : Depth) → stmt_walked cs (s.Undefine place at) n S ≡ place_walked cs place n S
unfolding stmt_walked
walk-Undefine cs place at n S = refl

pub walk-Error : (cs : List Depth) (at : Span) (n : ℕ) (S : Depth) → stmt_walked cs (s.Error at) n S ≡ touched n S
unfolding stmt_walked
walk-Error cs at n S = refl

pub walk-Assert : (cs : List Depth) (test : Expr) (at : Span) (n : ℕ) (S : Depth) → stmt_walked cs (s.Assert test at) n S ≡ walked cs test n S
unfolding stmt_walked
walk-Assert cs test at n S = refl

pub walk-PutText : (cs : List Depth) (at : Span) (n : ℕ) (S : Depth) → stmt_walked cs (s.PutText at) n S ≡ touched n S
unfolding stmt_walked
walk-PutText cs at n S = refl

pub walk-Put : (cs : List Depth) (shown : Expr) (at : Span) (n : ℕ) (S : Depth) → stmt_walked cs (s.Put shown at) n S ≡ walked cs shown n S
unfolding stmt_walked
walk-Put cs shown at n S = refl

pub walk-Leave : (cs : List Depth) (at : Span) (n : ℕ) (S : Depth) → stmt_walked cs (s.Leave at) n S ≡ touched n S
unfolding stmt_walked
walk-Leave cs at n S = refl

pub walk-Return : (cs : List Depth) (body : Expr) (at : Span) (n : ℕ) (S : Depth) → stmt_walked cs (s.Return body at) n S ≡ walked cs body n S
unfolding stmt_walked
walk-Return cs body at n S = refl

pub ruleset statements = (walk-Block, walk-Assign, walk-Copy, walk-CopyAll, walk-Procedure, walk-If, walk-Switch, walk-For, walk-Clear, walk-Undefine, walk-Error, walk-Assert, walk-PutText, walk-Put, walk-Leave, walk-Return, the_lemmas)
