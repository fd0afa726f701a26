-- Statements and routines declare names, kinds and routines, but no globals.
use Rattle.std.proofs.Common.{◌≡◌, Bool, false, List, [], ◌∷◌, ◌++◌, Option, None, Some, refl, ap, sym, ◌∙◌}
use Rattle.std.specs.Prelude.{is_some}
use Rattle.murphi_ast.specs.declared.token.Span.{Span}
use Rattle.murphi_ast.specs.declared.expr.Named.{Named}
use Rattle.murphi_ast.specs.declared.expr.Designator.{Designator}
use Rattle.murphi_ast.specs.declared.expr.Expr as e
use Rattle.murphi_ast.specs.declared.expr.Expr.{Expr}
use Rattle.murphi_ast.specs.declared.expr.TypeExpr.{TypeExpr}
use Rattle.murphi_ast.specs.declared.expr.Expr.TheBlock.{hidden-the_row-Expr-1, hidden-the_row-Selector-0}
use Rattle.murphi_ast.specs.declared.stmt.Stmt as w
use Rattle.murphi_ast.specs.declared.stmt.Stmt.{Stmt, Row_of-Stmt, end_of-Stmt, more_of-Stmt, Row_of-Arm, end_of-Arm, more_of-Arm, Row_of-Case, end_of-Case, more_of-Case}
use Rattle.murphi_ast.specs.declared.decl.Decl as decl
use Rattle.murphi_ast.specs.declared.decl.Decl.{Decl}
use Rattle.murphi_ast.specs.declared.decl.Formal.{Formal}
use Rattle.murphi_ast.specs.declared.decl.Routine.{Routine}
use Rattle.murphi_typed.specs.declared.types.AnyType.{AnyType}
use Rattle.murphi_typed.specs.declared.protocol.Formal as typed
use Rattle.murphi_types.specs.declared.scope.Known.{Known}
use Rattle.murphi_types.specs.declared.scope.Scope.{Scope}
use Rattle.murphi_types.specs.Places.{place_of, type_place_of}
use Rattle.murphi_types.specs.Scopes.{looked, binding}
use Rattle.murphi_types.specs.Fitting.{is_simple, simple_part}
use Rattle.murphi_types.specs.Found.{wanted}
use Rattle.murphi_types.specs.Designators.{FoundSelectors, FoundPlace, start_type}
use Rattle.murphi_types.specs.Calls.{FoundArguments, callee_of, formals_of}
use Rattle.murphi_types.specs.Types.{Unnamed, simple_wanted}
use Rattle.murphi_types.specs.Typing.{found, type_found}
use Rattle.murphi_types.specs.Lists.{place_found, list_arguments}
use Rattle.murphi_types.specs.Declarations.{Declared, declare_variable, declare_variables, naming_of, declared, all_declared}
use Rattle.murphi_types.specs.Statements.{Leaving, AtEnd, ByReturn, WithValue, assigned, labels_found, put, left, stmt_found, stmts_found, arms_found, cases_found, body_found}
use Rattle.murphi_types.specs.Routines.{FoundFormals, one_formal, formals_of_names, formal_faults, group_found, formals_found, no_formals, result_found, locals_of}
use Rattle.type_expressions.proofs.ListEquations.{arguments-are, selectors-are}
use Rattle.type_declarations.proofs.GlobalsLemmas.{globals_of, found-globals, selectors-globals, arguments-globals, type-globals}
use Rattle.type_routines.specs.Routines.{formals_in, result_in, locals_in, routine_of}

-- Designators and arguments in statements

place-globals : (s : Scope) (k : Known) (d : Designator) → globals_of (place_found s k d).known ≡ globals_of k
place-globals s k d =
    let c = start_type d.root.at (looked s k d.root.name) in
    ap (λ (f : FoundSelectors). globals_of f.known) (sym (selectors-are s k d.root.at c.type d.selectors))
    ∙ selectors-globals s k d.root.at c.type (hidden-the_row-Selector-0 d.selectors)

list-globals : (s : Scope) (k : Known) (at : Span) (formals : List typed.Formal) (xs : List Expr) → globals_of (list_arguments s k at formals xs).known ≡ globals_of k
list-globals s k at formals xs =
    ap (λ (f : FoundArguments). globals_of f.known) (sym (arguments-are s k at formals xs))
    ∙ arguments-globals s k at formals (hidden-the_row-Expr-1 xs)

assigned-globals : (s : Scope) (p : FoundPlace) (x : Expr) → globals_of (assigned s p x).known ≡ globals_of p.known
unfolding found
assigned-globals s p (e.Place' root u row) = selectors-globals s p.known root.at (start_type root.at (looked s p.known root.name)).type row
assigned-globals s p (e.Number n at) = found-globals s p.known (e.Number n at)
assigned-globals s p (e.Truth b at) = found-globals s p.known (e.Truth b at)
assigned-globals s p (e.Call' name u row) = found-globals s p.known (e.Call' name u row)
assigned-globals s p (e.Not' u row at) = found-globals s p.known (e.Not' u row at)
assigned-globals s p (e.Minus' u row at) = found-globals s p.known (e.Minus' u row at)
assigned-globals s p (e.Chain' u row v links) = found-globals s p.known (e.Chain' u row v links)
assigned-globals s p (e.Compare' op u row v right) = found-globals s p.known (e.Compare' op u row v right)
assigned-globals s p (e.Implies' u row v right) = found-globals s p.known (e.Implies' u row v right)
assigned-globals s p (e.Choice' a b c d f g) = found-globals s p.known (e.Choice' a b c d f g)
assigned-globals s p (e.Quantified' all a b c d at) = found-globals s p.known (e.Quantified' all a b c d at)
assigned-globals s p (e.IsUndefined' root u row at) = found-globals s p.known (e.IsUndefined' root u row at)

labels-globals : (s : Scope) (k : Known) (on : Option AnyType) (xs : List Expr) → globals_of (labels_found s k on xs).known ≡ globals_of k
labels-globals s k on [] = refl
labels-globals s k on (x ∷ xs) = labels-globals s (found s k x).known on xs ∙ found-globals s k x

put-globals : (s : Scope) (k : Known) (at : Span) (o : Option Expr) → globals_of (put s k at o).known ≡ globals_of k
put-globals s k at None = refl
put-globals s k at (Some x) = found-globals s k x

left-globals : (s : Scope) (k : Known) (v : Leaving) (at : Span) (o : Option Expr) → globals_of (left s k v at o).known ≡ globals_of k
left-globals s k AtEnd at None = refl
left-globals s k AtEnd at (Some x) = refl
left-globals s k ByReturn at None = refl
left-globals s k ByReturn at (Some x) = refl
left-globals s k (WithValue type) at None = refl
left-globals s k (WithValue type) at (Some x) = found-globals s k x

-- Statements

mutual
  unfolding stmt_found

  statement-globals : (v : Leaving) (s : Scope) (k : Known) (one : Stmt) → globals_of (stmt_found v s k one).known ≡ globals_of k
  statement-globals v s k (w.Assign to x) = assigned-globals s (place_found s k to) x ∙ place-globals s k to
  statement-globals v s k (w.Call name args) = list-globals s k name.at (formals_of (callee_of s k name (looked s k name.name))) args
  statement-globals v s k (w.If' a arms b otherwise at) = statements-globals v s (arms_found v s k arms).known otherwise ∙ arms-globals v s k arms
  statement-globals v s k (w.Switch' on a cases b otherwise at) =
      let f = wanted is_simple (place_of on) (found s k on) in
      statements-globals v s (cases_found v s f.known f.type cases).known otherwise
      ∙ cases-globals v s f.known f.type cases
      ∙ found-globals s k on
  statement-globals v s k (w.For' bind a body at) =
      statements-globals v (binding s bind.name.name (simple_part (simple_wanted (type_place_of bind.over) (type_found s k Unnamed bind.over)).type)) (type_found s k Unnamed bind.over).known body
      ∙ type-globals s k Unnamed bind.over
  statement-globals v s k (w.Clear place at) = place-globals s k place
  statement-globals v s k (w.Undefine place at) = place-globals s k place
  statement-globals v s k (w.Error at) = refl
  statement-globals v s k (w.Assert test at) = found-globals s k test
  statement-globals v s k (w.Put given at) = put-globals s k at given
  statement-globals v s k (w.Return body at) = left-globals s k v at body

  statements-globals : {n : _} (v : Leaving) (s : Scope) (k : Known) (row : Row_of-Stmt n) → globals_of (stmts_found v s k row).known ≡ globals_of k
  statements-globals v s k end_of-Stmt = refl
  statements-globals v s k (more_of-Stmt one rest) = statements-globals v s (stmt_found v s k one).known rest ∙ statement-globals v s k one

  arms-globals : {n : _} (v : Leaving) (s : Scope) (k : Known) (row : Row_of-Arm n) → globals_of (arms_found v s k row).known ≡ globals_of k
  arms-globals v s k end_of-Arm = refl
  arms-globals v s k (more_of-Arm test a body rest) =
      arms-globals v s (stmts_found v s (found s k test).known body).known rest
      ∙ statements-globals v s (found s k test).known body
      ∙ found-globals s k test

  cases-globals : {n : _} (v : Leaving) (s : Scope) (k : Known) (on : Option AnyType) (row : Row_of-Case n) → globals_of (cases_found v s k on row).known ≡ globals_of k
  cases-globals v s k on end_of-Case = refl
  cases-globals v s k on (more_of-Case labels a body rest) =
      cases-globals v s (stmts_found v s (labels_found s k on labels).known body).known on rest
      ∙ statements-globals v s (labels_found s k on labels).known body
      ∙ labels-globals s k on labels

body-globals : (v : Leaving) (s : Scope) (k : Known) (all : List Stmt) → globals_of (body_found v s k all).known ≡ globals_of k
body-globals v s k [] = refl
body-globals v s k (one ∷ rest) = body-globals v s (stmt_found v s k one).known rest ∙ statement-globals v s k one

-- Formals, results and locals

names-globals : (b : Bool) (t : Option AnyType) (ns : List Named) (f : FoundFormals) → globals_of (formals_of_names b t ns f).known ≡ globals_of f.known
names-globals b t [] f = refl
names-globals b t (n ∷ ns) f = names-globals b t ns (one_formal b t n.name f)

formals-globals : (all : List Formal) (f : FoundFormals) → globals_of (formals_found all f).known ≡ globals_of f.known
formals-globals [] f = refl
formals-globals (one ∷ rest) f =
    let t = type_found f.scope f.known Unnamed one.body in
    let begun : FoundFormals = record f { known = t.known; faults = f.faults ++ (formal_faults f.scope.in_function one.by_place one.names ++ t.faults) } in
    formals-globals rest (group_found one f t)
    ∙ names-globals one.by_place t.type one.names begun
    ∙ type-globals f.scope f.known Unnamed one.body

result-globals : (s : Scope) (k : Known) (o : Option TypeExpr) → globals_of (result_found s k o).known ≡ globals_of k
result-globals s k None = refl
result-globals s k (Some t) = type-globals s k Unnamed t

variables-globals : (ns : List Named) (t : Option AnyType) (d : Declared) → globals_of (declare_variables false ns t d).known ≡ globals_of d.known
variables-globals [] t d = refl
variables-globals (n ∷ ns) None d = variables-globals ns None (declare_variable false n.name None d)
variables-globals (n ∷ ns) (Some t) d = variables-globals ns (Some t) (declare_variable false n.name (Some t) d)

local-globals : (one : Decl) (d : Declared) → globals_of (declared false one d).known ≡ globals_of d.known
local-globals (decl.Constant name x) d = found-globals d.scope d.known x
local-globals (decl.TypeName name t) d = type-globals d.scope d.known (naming_of false d.scope.node name.name) t
local-globals (decl.Variables names t) d =
    let f = type_found d.scope d.known Unnamed t in
    let begun : Declared = record d { known = f.known; faults = d.faults ++ f.faults } in
    variables-globals names f.type begun ∙ type-globals d.scope d.known Unnamed t
local-globals (decl.Routine' name formals result shape locals body) d = refl

locals-globals : (all : List Decl) (d : Declared) → globals_of (all_declared false all d).known ≡ globals_of d.known
locals-globals [] d = refl
locals-globals (one ∷ rest) d = locals-globals rest (declared false one d) ∙ local-globals one d

-- Routines

pub routine-globals : (s : Scope) (k : Known) (one : Routine) → globals_of (routine_of s k one).known ≡ globals_of k
routine-globals s k one =
    let f = formals_in s k one in
    let d = locals_in f one in
    body-globals (result_in f one).leaving d.scope d.known one.body
    ∙ locals-globals one.locals (locals_of f.scope (result_in f one) f.faults)
    ∙ result-globals f.scope f.known one.result
    ∙ formals-globals one.formals (no_formals s (is_some one.result) k)
