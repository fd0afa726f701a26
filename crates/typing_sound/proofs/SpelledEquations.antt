-- What is asked of trees, in terms of the parts of which the grammar builds them: with lists where the trees have rows.
use Rattle.std.proofs.Common.{◌≡◌, ℕ, Bool, true, false, ◌&&◌, List, [], ◌∷◌, Option, refl, ap, sym, ◌∙◌}
use Rattle.std.specs.Prelude.{nat_le}
use Rattle.std.specs.List.{list_all}
use Rattle.std.specs.Option.{option_map_or}
use denote.Hole.Carrier.{hidden}
use Rattle.murphi_ast.specs.Bytes.{greatest_number}
use Rattle.murphi_ast.specs.declared.token.Span.{Span}
use Rattle.murphi_ast.specs.declared.expr.Named.{Named}
use Rattle.murphi_ast.specs.declared.expr.CompareOp.{CompareOp}
use Rattle.murphi_ast.specs.declared.expr.Link.{Link}
use Rattle.murphi_ast.specs.declared.expr.Bind.{Bind}
use Rattle.murphi_ast.specs.declared.expr.FieldDecl.{FieldDecl}
use Rattle.murphi_ast.specs.declared.expr.Designator.{Designator}
use Rattle.murphi_ast.specs.declared.expr.Selector as part
use Rattle.murphi_ast.specs.declared.expr.Selector.{Selector}
use Rattle.murphi_ast.specs.declared.expr.Expr as e
use Rattle.murphi_ast.specs.declared.expr.Expr.{Expr, Row_of-Expr, end_of-Expr, more_of-Expr, items-the_row-Expr, items_hidden-the_row-Expr-1, Row_of-Link, end_of-Link, more_of-Link, items-the_row-Link, items_hidden-the_row-Link-3, Row_of-Selector, end_of-Selector, more_of-Selector, items-the_row-Selector, items_hidden-the_row-Selector-0}
use Rattle.murphi_ast.specs.declared.expr.TypeExpr as t
use Rattle.murphi_ast.specs.declared.expr.TypeExpr.{TypeExpr, Row_of-FieldDecl, end_of-FieldDecl, more_of-FieldDecl, items-the_row-FieldDecl, items_hidden-the_row-FieldDecl-5}
use Rattle.murphi_ast.specs.declared.expr.Expr.TheBlock.{shape-the_row-Expr-2, hidden-the_row-Expr-2, hidden-the_row-Link-3, hidden-the_row-Selector-0, hidden-the_row-Expr-1, shape-the_row-Bind-4, hidden-the_row-Bind-4, shape-the_row-TypeExpr-6, hidden-the_row-TypeExpr-6, hidden-the_row-FieldDecl-5}
use Rattle.murphi_ast.specs.declared.stmt.Arm.{Arm}
use Rattle.murphi_ast.specs.declared.stmt.Case.{Case}
use Rattle.murphi_ast.specs.declared.stmt.Stmt as w
use Rattle.murphi_ast.specs.declared.stmt.Stmt.{Stmt, Row_of-Stmt, end_of-Stmt, more_of-Stmt, Row_of-Arm, end_of-Arm, more_of-Arm, Row_of-Case, end_of-Case, more_of-Case, items-the_row-Stmt, items-the_row-Arm, items-the_row-Case, items_hidden-the_row-Stmt-0, items_hidden-the_row-Arm-1, items_hidden-the_row-Case-2, items_shown-the_row-Stmt-0}
use Rattle.murphi_ast.specs.declared.stmt.Stmt.TheBlock.{shown-the_row-Stmt-0, hidden-the_row-Stmt-0, hidden-the_row-Arm-1, hidden-the_row-Case-2}
use Rattle.murphi_ast.specs.declared.decl.Decl as decl
use Rattle.murphi_ast.specs.declared.decl.Decl.{Decl, Row_of-Decl, end_of-Decl, more_of-Decl, items-the_row-Decl, items_hidden-the_row-Decl-0}
use Rattle.murphi_ast.specs.declared.decl.Decl.TheBlock.{hidden-the_row-Decl-0}
use Rattle.murphi_ast.specs.declared.decl.Routine.{Routine}
use Rattle.murphi_ast.specs.declared.rule.RuleDecl as r
use Rattle.murphi_ast.specs.declared.rule.RuleDecl.{RuleDecl, Row_of-RuleDecl, end_of-RuleDecl, more_of-RuleDecl, items-the_row-RuleDecl, items_hidden-the_row-RuleDecl-0}
use Rattle.murphi_ast.specs.declared.rule.RuleDecl.TheBlock.{hidden-the_row-RuleDecl-0}
use Rattle.murphi_typed.specs.Families.{Name}
use Rattle.murphi_typed.specs.declared.types.Simple.{Simple}
use Rattle.murphi_typed.specs.WellTyped.{numbers, same_simple, operand_type}
use Rattle.murphi_types.specs.Typing.{chain_operands}
use Rattle.typing_sound.specs.Spelled.{has_one, is_spelled, links_spelled, selectors_spelled, args_spelled, type_spelled, fields_spelled, selector_spelled, place_spelled, stmt_spelled, stmts_spelled, arms_spelled, cases_spelled, simple_spelled, locals_spelled, formal_spelled, decl_spelled, bind_spelled, item_spelled, items_spelled}

-- Lists

abbrev pub list_operands : List Link → Simple
list_operands [] = numbers
list_operands (l ∷ ls) = operand_type l.op

abbrev pub list_links : Simple → List Link → Bool
list_links type [] = true
list_links type (l ∷ ls) = same_simple (operand_type l.op) type && (is_spelled l.operand && list_links type ls)

abbrev pub field_spelled : FieldDecl → Bool
field_spelled f = type_spelled f.body

abbrev pub arm_spelled : Arm → Bool
arm_spelled a = is_spelled a.test && list_all stmt_spelled a.body

abbrev pub case_spelled : Case → Bool
case_spelled c = list_all is_spelled c.labels && list_all stmt_spelled c.body

-- Expressions and types

operands-are : {n : _} (row : Row_of-Link n) → chain_operands row ≡ list_operands (items-the_row-Link n row)
operands-are end_of-Link = refl
operands-are (more_of-Link op operand rest) = refl

links-are : {n : _} (type : Simple) (row : Row_of-Link n) → links_spelled type row ≡ list_links type (items-the_row-Link n row)
unfolding is_spelled
links-are type end_of-Link = refl
links-are type (more_of-Link op operand rest) = ap (λ b. same_simple (operand_type op) type && (is_spelled operand && b)) (links-are type rest)

selectors-are : {n : _} (row : Row_of-Selector n) → selectors_spelled row ≡ list_all selector_spelled (items-the_row-Selector n row)
unfolding is_spelled
selectors-are end_of-Selector = refl
selectors-are (more_of-Selector (part.Field name) rest) = selectors-are rest
selectors-are (more_of-Selector (part.Index index) rest) = ap (λ b. is_spelled index && b) (selectors-are rest)

args-are : {n : _} (row : Row_of-Expr n) → args_spelled row ≡ list_all is_spelled (items-the_row-Expr n row)
unfolding is_spelled
args-are end_of-Expr = refl
args-are (more_of-Expr first rest) = ap (λ b. is_spelled first && b) (args-are rest)

fields-are : {n : _} (row : Row_of-FieldDecl n) → fields_spelled row ≡ list_all field_spelled (items-the_row-FieldDecl n row)
unfolding is_spelled
fields-are end_of-FieldDecl = refl
fields-are (more_of-FieldDecl names body rest) = ap (λ b. type_spelled body && b) (fields-are rest)

pub so-Number : (n : ℕ) (at : Span) → is_spelled (e.Number n at) ≡ nat_le n greatest_number
unfolding is_spelled
so-Number n at = refl

pub so-Truth : (b : Bool) (at : Span) → is_spelled (e.Truth b at) ≡ true
unfolding is_spelled
so-Truth b at = refl

pub so-Place : (place : Designator) → is_spelled (e.Place place) ≡ place_spelled place
unfolding is_spelled
so-Place place = selectors-are (hidden-the_row-Selector-0 place.selectors) ∙ ap (list_all selector_spelled) (items_hidden-the_row-Selector-0 place.selectors)

pub so-IsUndefined : (place : Designator) (at : Span) → is_spelled (e.IsUndefined place at) ≡ place_spelled place
unfolding is_spelled
so-IsUndefined place at = selectors-are (hidden-the_row-Selector-0 place.selectors) ∙ ap (list_all selector_spelled) (items_hidden-the_row-Selector-0 place.selectors)

pub so-Call : (name : Named) (args : List Expr) → is_spelled (e.Call name args) ≡ list_all is_spelled args
unfolding is_spelled
so-Call name args = args-are (hidden-the_row-Expr-1 args) ∙ ap (list_all is_spelled) (items_hidden-the_row-Expr-1 args)

pub so-Not : (body : Expr) (at : Span) → is_spelled (e.Not body at) ≡ is_spelled body
unfolding is_spelled shape-the_row-Expr-2 hidden-the_row-Expr-2 hidden
so-Not body at = refl

pub so-Minus : (body : Expr) (at : Span) → is_spelled (e.Minus body at) ≡ is_spelled body
unfolding is_spelled shape-the_row-Expr-2 hidden-the_row-Expr-2 hidden
so-Minus body at = refl

pub so-Chain : (first : Expr) (rest : List Link) → is_spelled (e.Chain first rest) ≡ (is_spelled first && list_links (list_operands rest) rest)
unfolding is_spelled shape-the_row-Expr-2 hidden-the_row-Expr-2 hidden
so-Chain first rest =
    ap (λ b. is_spelled first && b)
    (links-are (chain_operands (hidden-the_row-Link-3 rest)) (hidden-the_row-Link-3 rest)
    ∙ (ap (λ u. list_links u (items-the_row-Link _ (hidden-the_row-Link-3 rest))) (operands-are (hidden-the_row-Link-3 rest))
    ∙ ap (λ l. list_links (list_operands l) l) (items_hidden-the_row-Link-3 rest)))

pub so-Compare : (op : CompareOp) (left right : Expr) → is_spelled (e.Compare op left right) ≡ (is_spelled left && is_spelled right)
unfolding is_spelled shape-the_row-Expr-2 hidden-the_row-Expr-2 hidden
so-Compare op left right = refl

pub so-Implies : (left right : Expr) → is_spelled (e.Implies left right) ≡ (is_spelled left && is_spelled right)
unfolding is_spelled shape-the_row-Expr-2 hidden-the_row-Expr-2 hidden
so-Implies left right = refl

pub so-Choice : (test a b : Expr) → is_spelled (e.Choice test a b) ≡ (is_spelled test && (is_spelled a && is_spelled b))
unfolding is_spelled shape-the_row-Expr-2 hidden-the_row-Expr-2 hidden
so-Choice test a b = refl

pub so-Quantified : (all : Bool) (bind : Bind) (body : Expr) (at : Span) → is_spelled (e.Quantified all bind body at) ≡ (bind_spelled bind && is_spelled body)
unfolding is_spelled shape-the_row-Expr-2 hidden-the_row-Expr-2 shape-the_row-Bind-4 hidden-the_row-Bind-4 hidden
so-Quantified all bind body at = refl

pub so-Known : (name : Named) → type_spelled (t.Known name) ≡ true
unfolding is_spelled
so-Known name = refl

pub so-Boolean : (at : Span) → type_spelled (t.Truth at) ≡ true
unfolding is_spelled
so-Boolean at = refl

pub so-Range : (low high : Expr) → type_spelled (t.Range low high) ≡ (is_spelled low && is_spelled high)
unfolding is_spelled shape-the_row-Expr-2 hidden-the_row-Expr-2 hidden
so-Range low high = refl

pub so-Listed : (names : List Named) (at : Span) → type_spelled (t.Listed names at) ≡ has_one names
unfolding is_spelled
so-Listed names at = refl

pub so-Scalarset : (size : Expr) (at : Span) → type_spelled (t.Scalarset size at) ≡ is_spelled size
unfolding is_spelled shape-the_row-Expr-2 hidden-the_row-Expr-2 hidden
so-Scalarset size at = refl

pub so-Fields : (fields : List FieldDecl) (at : Span) → type_spelled (t.Fields fields at) ≡ list_all field_spelled fields
unfolding is_spelled
so-Fields fields at = fields-are (hidden-the_row-FieldDecl-5 fields) ∙ ap (list_all field_spelled) (items_hidden-the_row-FieldDecl-5 fields)

pub so-Array : (index item : TypeExpr) (at : Span) → type_spelled (t.Array index item at) ≡ (type_spelled index && type_spelled item)
unfolding is_spelled shape-the_row-TypeExpr-6 hidden-the_row-TypeExpr-6 hidden
so-Array index item at = refl

-- Statements

stmts-are : {n : _} (row : Row_of-Stmt n) → stmts_spelled row ≡ list_all stmt_spelled (items-the_row-Stmt n row)
unfolding stmt_spelled
stmts-are end_of-Stmt = refl
stmts-are (more_of-Stmt first rest) = ap (λ b. stmt_spelled first && b) (stmts-are rest)

arms-are : {n : _} (row : Row_of-Arm n) → arms_spelled row ≡ list_all arm_spelled (items-the_row-Arm n row)
unfolding stmt_spelled
arms-are end_of-Arm = refl
arms-are (more_of-Arm test sh body rest) =
    ap (λ b. is_spelled test && (stmts_spelled body && b)) (arms-are rest)
    ∙ (ap (λ b. is_spelled test && (b && list_all arm_spelled (items-the_row-Arm _ rest))) (stmts-are body ∙ ap (list_all stmt_spelled) (sym (items_shown-the_row-Stmt-0 sh body)))
    ∙ sym (and-assoc (is_spelled test) (list_all stmt_spelled (shown-the_row-Stmt-0 sh body)) (list_all arm_spelled (items-the_row-Arm _ rest))))
  where
    and-assoc : (a b c : Bool) → ((a && b) && c) ≡ (a && (b && c))
    and-assoc true b c = refl
    and-assoc false b c = refl

cases-are : {n : _} (row : Row_of-Case n) → cases_spelled row ≡ list_all case_spelled (items-the_row-Case n row)
unfolding stmt_spelled
cases-are end_of-Case = refl
cases-are (more_of-Case labels sh body rest) =
    ap (λ b. list_all is_spelled labels && (stmts_spelled body && b)) (cases-are rest)
    ∙ (ap (λ b. list_all is_spelled labels && (b && list_all case_spelled (items-the_row-Case _ rest))) (stmts-are body ∙ ap (list_all stmt_spelled) (sym (items_shown-the_row-Stmt-0 sh body)))
    ∙ sym (and-assoc (list_all is_spelled labels) (list_all stmt_spelled (shown-the_row-Stmt-0 sh body)) (list_all case_spelled (items-the_row-Case _ rest))))
  where
    and-assoc : (a b c : Bool) → ((a && b) && c) ≡ (a && (b && c))
    and-assoc true b c = refl
    and-assoc false b c = refl

hidden-stmts : (body : List Stmt) → stmts_spelled (hidden-the_row-Stmt-0 body) ≡ list_all stmt_spelled body
hidden-stmts body = stmts-are (hidden-the_row-Stmt-0 body) ∙ ap (list_all stmt_spelled) (items_hidden-the_row-Stmt-0 body)

pub so-Assign : (to : Designator) (body : Expr) → stmt_spelled (w.Assign to body) ≡ (place_spelled to && is_spelled body)
unfolding stmt_spelled
so-Assign to body = refl

pub so-Procedure : (name : Named) (args : List Expr) → stmt_spelled (w.Call name args) ≡ list_all is_spelled args
unfolding stmt_spelled
so-Procedure name args = refl

pub so-If : (arms : List Arm) (otherwise : List Stmt) (at : Span) → stmt_spelled (w.If arms otherwise at) ≡ (list_all arm_spelled arms && list_all stmt_spelled otherwise)
unfolding stmt_spelled
so-If arms otherwise at =
    ap (λ b. b && stmts_spelled (hidden-the_row-Stmt-0 otherwise)) (arms-are (hidden-the_row-Arm-1 arms) ∙ ap (list_all arm_spelled) (items_hidden-the_row-Arm-1 arms))
    ∙ ap (λ b. list_all arm_spelled arms && b) (hidden-stmts otherwise)

pub so-Switch : (on : Expr) (cases : List Case) (otherwise : List Stmt) (at : Span) → stmt_spelled (w.Switch on cases otherwise at) ≡ (is_spelled on && (list_all case_spelled cases && list_all stmt_spelled otherwise))
unfolding stmt_spelled
so-Switch on cases otherwise at =
    ap (λ b. is_spelled on && (b && stmts_spelled (hidden-the_row-Stmt-0 otherwise))) (cases-are (hidden-the_row-Case-2 cases) ∙ ap (list_all case_spelled) (items_hidden-the_row-Case-2 cases))
    ∙ ap (λ b. is_spelled on && (list_all case_spelled cases && b)) (hidden-stmts otherwise)

pub so-For : (bind : Bind) (body : List Stmt) (at : Span) → stmt_spelled (w.For bind body at) ≡ (bind_spelled bind && list_all stmt_spelled body)
unfolding stmt_spelled
so-For bind body at = ap (λ b. bind_spelled bind && b) (hidden-stmts body)

pub so-Clear : (place : Designator) (at : Span) → stmt_spelled (w.Clear place at) ≡ place_spelled place
unfolding stmt_spelled
so-Clear place at = refl

pub so-Undefine : (place : Designator) (at : Span) → stmt_spelled (w.Undefine place at) ≡ place_spelled place
unfolding stmt_spelled
so-Undefine place at = refl

pub so-Error : (at : Span) → stmt_spelled (w.Error at) ≡ true
unfolding stmt_spelled
so-Error at = refl

pub so-Assert : (test : Expr) (at : Span) → stmt_spelled (w.Assert test at) ≡ is_spelled test
unfolding stmt_spelled
so-Assert test at = refl

pub so-Put : (given : Option Expr) (at : Span) → stmt_spelled (w.Put given at) ≡ option_map_or is_spelled given true
unfolding stmt_spelled
so-Put given at = refl

pub so-Return : (given : Option Expr) (at : Span) → stmt_spelled (w.Return given at) ≡ option_map_or is_spelled given true
unfolding stmt_spelled
so-Return given at = refl

-- Declarations and items

locals-are : {n : _} (row : Row_of-Decl n) → locals_spelled row ≡ list_all simple_spelled (items-the_row-Decl n row)
locals-are end_of-Decl = refl
locals-are (more_of-Decl one rest) = ap (λ b. simple_spelled one && b) (locals-are rest)

pub so-Routine : (one : Routine) → decl_spelled (decl.Routine one) ≡ (list_all formal_spelled one.formals && (option_map_or type_spelled one.result true && (list_all simple_spelled one.locals && list_all stmt_spelled one.body)))
so-Routine one =
    ap (λ b. list_all formal_spelled one.formals && (option_map_or type_spelled one.result true && (b && list_all stmt_spelled one.body)))
    (locals-are (hidden-the_row-Decl-0 one.locals) ∙ ap (list_all simple_spelled) (items_hidden-the_row-Decl-0 one.locals))

items-are : {n : _} (row : Row_of-RuleDecl n) → items_spelled row ≡ list_all item_spelled (items-the_row-RuleDecl n row)
unfolding item_spelled
items-are end_of-RuleDecl = refl
items-are (more_of-RuleDecl one rest) = ap (λ b. item_spelled one && b) (items-are rest)

pub so-Group : (binds : List Bind) (items : List RuleDecl) (at : Span) → item_spelled (r.Group binds items at) ≡ (list_all bind_spelled binds && list_all item_spelled items)
unfolding item_spelled
so-Group binds items at = ap (λ b. list_all bind_spelled binds && b) (items-are (hidden-the_row-RuleDecl-0 items) ∙ ap (list_all item_spelled) (items_hidden-the_row-RuleDecl-0 items))

pub so-Rule : (string : Option Name) (guard : Option Expr) (locals : List Decl) (body : List Stmt) (at : Span) → item_spelled (r.Rule string guard locals body at) ≡ (option_map_or is_spelled guard true && (list_all simple_spelled locals && list_all stmt_spelled body))
unfolding item_spelled
so-Rule string guard locals body at = refl

pub so-Start : (string : Option Name) (locals : List Decl) (body : List Stmt) (at : Span) → item_spelled (r.Start string locals body at) ≡ (list_all simple_spelled locals && list_all stmt_spelled body)
unfolding item_spelled
so-Start string locals body at = refl

pub so-Invariant : (string : Option Name) (body : Expr) (at : Span) → item_spelled (r.Invariant string body at) ≡ is_spelled body
unfolding item_spelled
so-Invariant string body at = refl
