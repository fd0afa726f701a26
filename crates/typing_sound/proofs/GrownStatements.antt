-- Typing of statements and declarations of locals leaves globals and routines as they are, and adds kinds behind those
-- that are there.
use Rattle.std.proofs.Common.{false, List, [], ◌∷◌, Option, None, Some}
use Rattle.murphi_ast.specs.declared.token.Span.{Span}
use Rattle.murphi_ast.specs.declared.expr.Named.{Named}
use Rattle.murphi_ast.specs.declared.expr.Expr as e
use Rattle.murphi_ast.specs.declared.expr.Expr.{Expr}
use Rattle.murphi_ast.specs.declared.expr.Selector as part
use Rattle.murphi_ast.specs.declared.expr.Selector.{Selector}
use Rattle.murphi_ast.specs.declared.expr.Designator.{Designator}
use Rattle.murphi_ast.specs.declared.stmt.Stmt as w
use Rattle.murphi_ast.specs.declared.stmt.Stmt.{Stmt, Row_of-Stmt, end_of-Stmt, more_of-Stmt, Row_of-Arm, end_of-Arm, more_of-Arm, Row_of-Case, end_of-Case, more_of-Case}
use Rattle.murphi_ast.specs.declared.decl.Decl as decl
use Rattle.murphi_ast.specs.declared.decl.Decl.{Decl, Row_of-Decl, end_of-Decl, more_of-Decl}
use Rattle.murphi_typed.specs.Families.{Name}
use Rattle.murphi_typed.specs.declared.types.AnyType.{AnyType}
use Rattle.murphi_typed.specs.declared.protocol.Formal.{Formal}
use Rattle.murphi_typed.specs.WellTyped.{first_of, rest_of}
use Rattle.murphi_types.specs.declared.scope.Known.{Known}
use Rattle.murphi_types.specs.declared.scope.Scope.{Scope}
use Rattle.murphi_types.specs.Places.{place_of, type_place_of}
use Rattle.murphi_types.specs.Scopes.{looked, binding}
use Rattle.murphi_types.specs.Fitting.{is_simple, simple_part}
use Rattle.murphi_types.specs.Found.{wanted}
use Rattle.murphi_types.specs.Designators.{FoundPlace, start_type, place_made, field_chosen}
use Rattle.murphi_types.specs.Calls.{callee_of, formals_of}
use Rattle.murphi_types.specs.Types.{Unnamed, simple_wanted}
use Rattle.murphi_types.specs.Typing.{found, selectors_found, type_found}
use Rattle.murphi_types.specs.Lists.{list_selectors, place_found, argument_found, list_arguments}
use Rattle.murphi_types.specs.Statements.{Leaving, AtEnd, ByReturn, WithValue, assigned, put, left, labels_found, stmt_found, stmts_found, arms_found, cases_found, body_found}
use Rattle.murphi_types.specs.Declarations.{Declared, declare_variable, declare_variables, naming_of, declared, all_declared}
use Rattle.murphi_types.specs.Routines.{row_declared}
use Rattle.typing_sound.proofs.Grown.{Grown, still, next, found-grown, selectors-grown, type-grown, placed-grown, valued-grown}

-- Designators and arguments in statements

pub list-selectors-grown : (s : Scope) (k : Known) (at : Span) (of : Option AnyType) (rest : List Selector) → Grown k (list_selectors s k at of rest).known
list-selectors-grown s k at of [] = still k
list-selectors-grown s k at of (part.Field name ∷ rest) = list-selectors-grown s k at (field_chosen at name of).type rest
list-selectors-grown s k at of (part.Index index ∷ rest) = next (found-grown s k index) (list-selectors-grown s (found s k index).known at _ rest)

pub place-grown : (s : Scope) (k : Known) (d : Designator) → Grown k (place_found s k d).known
place-grown s k d = list-selectors-grown s k d.root.at (start_type d.root.at (looked s k d.root.name)).type d.selectors

pub argument-grown : (s : Scope) (k : Known) (at : Span) (o : Option Formal) (first : Expr) → Grown k (argument_found s k at o first).known
argument-grown s k at o (e.Place' root u row) =
    let c = start_type root.at (looked s k root.name) in
    placed-grown k o (place_made root.at (looked s k root.name) c (selectors_found s k root.at c.type row)) (selectors-grown s k root.at c.type row)
argument-grown s k at o (e.Number n p) = valued-grown k at _ o _ (found-grown s k (e.Number n p))
argument-grown s k at o (e.Truth b p) = valued-grown k at _ o _ (found-grown s k (e.Truth b p))
argument-grown s k at o (e.Call' name u row) = valued-grown k at _ o _ (found-grown s k (e.Call' name u row))
argument-grown s k at o (e.Not' u row p) = valued-grown k at _ o _ (found-grown s k (e.Not' u row p))
argument-grown s k at o (e.Minus' u row p) = valued-grown k at _ o _ (found-grown s k (e.Minus' u row p))
argument-grown s k at o (e.Chain' u row v links) = valued-grown k at _ o _ (found-grown s k (e.Chain' u row v links))
argument-grown s k at o (e.Compare' op u row v right) = valued-grown k at _ o _ (found-grown s k (e.Compare' op u row v right))
argument-grown s k at o (e.Implies' u row v right) = valued-grown k at _ o _ (found-grown s k (e.Implies' u row v right))
argument-grown s k at o (e.Choice' a b c d f g) = valued-grown k at _ o _ (found-grown s k (e.Choice' a b c d f g))
argument-grown s k at o (e.Quantified' all a b c d p) = valued-grown k at _ o _ (found-grown s k (e.Quantified' all a b c d p))
argument-grown s k at o (e.IsUndefined' root u row p) = valued-grown k at _ o _ (found-grown s k (e.IsUndefined' root u row p))

pub list-arguments-grown : (s : Scope) (k : Known) (at : Span) (formals : List Formal) (args : List Expr) → Grown k (list_arguments s k at formals args).known
list-arguments-grown s k at formals [] = still k
list-arguments-grown s k at formals (first ∷ rest) =
    next (argument-grown s k at (first_of formals) first) (list-arguments-grown s (argument_found s k at (first_of formals) first).known at (rest_of formals) rest)

-- Statements

pub assigned-grown : (s : Scope) (k : Known) (p : FoundPlace) (body : Expr) → Grown k p.known → Grown k (assigned s p body).known
assigned-grown s k p (e.Place' root u row) h = next h (selectors-grown s p.known root.at (start_type root.at (looked s p.known root.name)).type row)
assigned-grown s k p (e.Number n q) h = next h (found-grown s p.known (e.Number n q))
assigned-grown s k p (e.Truth b q) h = next h (found-grown s p.known (e.Truth b q))
assigned-grown s k p (e.Call' name u row) h = next h (found-grown s p.known (e.Call' name u row))
assigned-grown s k p (e.Not' u row q) h = next h (found-grown s p.known (e.Not' u row q))
assigned-grown s k p (e.Minus' u row q) h = next h (found-grown s p.known (e.Minus' u row q))
assigned-grown s k p (e.Chain' u row v links) h = next h (found-grown s p.known (e.Chain' u row v links))
assigned-grown s k p (e.Compare' op u row v right) h = next h (found-grown s p.known (e.Compare' op u row v right))
assigned-grown s k p (e.Implies' u row v right) h = next h (found-grown s p.known (e.Implies' u row v right))
assigned-grown s k p (e.Choice' a b c d f g) h = next h (found-grown s p.known (e.Choice' a b c d f g))
assigned-grown s k p (e.Quantified' all a b c d q) h = next h (found-grown s p.known (e.Quantified' all a b c d q))
assigned-grown s k p (e.IsUndefined' root u row q) h = next h (found-grown s p.known (e.IsUndefined' root u row q))

pub labels-grown : (s : Scope) (k : Known) (on : Option AnyType) (labels : List Expr) → Grown k (labels_found s k on labels).known
labels-grown s k on [] = still k
labels-grown s k on (first ∷ rest) = next (found-grown s k first) (labels-grown s (found s k first).known on rest)

put-grown : (s : Scope) (k : Known) (at : Span) (given : Option Expr) → Grown k (put s k at given).known
put-grown s k at None = still k
put-grown s k at (Some body) = found-grown s k body

left-grown : (s : Scope) (k : Known) (leaving : Leaving) (at : Span) (given : Option Expr) → Grown k (left s k leaving at given).known
left-grown s k AtEnd at None = still k
left-grown s k AtEnd at (Some body) = still k
left-grown s k ByReturn at None = still k
left-grown s k ByReturn at (Some body) = still k
left-grown s k (WithValue type) at None = still k
left-grown s k (WithValue type) at (Some body) = found-grown s k body

mutual
  unfolding stmt_found

  pub stmt-grown : (l : Leaving) (s : Scope) (k : Known) (one : Stmt) → Grown k (stmt_found l s k one).known
  stmt-grown l s k (w.Assign to body) = assigned-grown s k (place_found s k to) body (place-grown s k to)
  stmt-grown l s k (w.Call name args) = list-arguments-grown s k name.at (formals_of (callee_of s k name (looked s k name.name))) args
  stmt-grown l s k (w.If' u arms v otherwise at) = next (arms-grown l s k arms) (stmts-grown l s (arms_found l s k arms).known otherwise)
  stmt-grown l s k (w.Switch' on u cases v otherwise at) =
      let f = wanted is_simple (place_of on) (found s k on) in
      next (found-grown s k on) (next (cases-grown l s f.known f.type cases) (stmts-grown l s (cases_found l s f.known f.type cases).known otherwise))
  stmt-grown l s k (w.For' bind u body at) =
      let f = simple_wanted (type_place_of bind.over) (type_found s k Unnamed bind.over) in
      next (type-grown s k Unnamed bind.over) (stmts-grown l (binding s bind.name.name (simple_part f.type)) f.known body)
  stmt-grown l s k (w.Clear place at) = place-grown s k place
  stmt-grown l s k (w.Undefine place at) = place-grown s k place
  stmt-grown l s k (w.Error at) = still k
  stmt-grown l s k (w.Assert test at) = found-grown s k test
  stmt-grown l s k (w.Put given at) = put-grown s k at given
  stmt-grown l s k (w.Return given at) = left-grown s k l at given

  pub stmts-grown : {n : _} (l : Leaving) (s : Scope) (k : Known) (row : Row_of-Stmt n) → Grown k (stmts_found l s k row).known
  stmts-grown l s k end_of-Stmt = still k
  stmts-grown l s k (more_of-Stmt first rest) = next (stmt-grown l s k first) (stmts-grown l s (stmt_found l s k first).known rest)

  pub arms-grown : {n : _} (l : Leaving) (s : Scope) (k : Known) (row : Row_of-Arm n) → Grown k (arms_found l s k row).known
  arms-grown l s k end_of-Arm = still k
  arms-grown l s k (more_of-Arm test u body rest) =
      let m = (found s k test).known in
      next (found-grown s k test) (next (stmts-grown l s m body) (arms-grown l s (stmts_found l s m body).known rest))

  pub cases-grown : {n : _} (l : Leaving) (s : Scope) (k : Known) (on : Option AnyType) (row : Row_of-Case n) → Grown k (cases_found l s k on row).known
  cases-grown l s k on end_of-Case = still k
  cases-grown l s k on (more_of-Case labels u body rest) =
      let m = (labels_found s k on labels).known in
      next (labels-grown s k on labels) (next (stmts-grown l s m body) (cases-grown l s (stmts_found l s m body).known on rest))

pub body-grown : (l : Leaving) (s : Scope) (k : Known) (body : List Stmt) → Grown k (body_found l s k body).known
body-grown l s k [] = still k
body-grown l s k (first ∷ rest) = next (stmt-grown l s k first) (body-grown l s (stmt_found l s k first).known rest)

-- Locals

name-known : (name : Name) (type : Option AnyType) (d : Declared) → Grown d.known (declare_variable false name type d).known
name-known name None d = still d.known
name-known name (Some type) d = still d.known

pub names-grown : (names : List Named) (type : Option AnyType) (d : Declared) → Grown d.known (declare_variables false names type d).known
names-grown [] type d = still d.known
names-grown (n ∷ ns) type d = next (name-known n.name type d) (names-grown ns type (declare_variable false n.name type d))

pub local-grown : (one : Decl) (d : Declared) → Grown d.known (declared false one d).known
local-grown (decl.Constant name body) d = found-grown d.scope d.known body
local-grown (decl.TypeName name body) d = type-grown d.scope d.known (naming_of false d.scope.node name.name) body
local-grown (decl.Variables names body) d =
    next (type-grown d.scope d.known Unnamed body) (names-grown names (type_found d.scope d.known Unnamed body).type (record d { known = (type_found d.scope d.known Unnamed body).known; faults = _ }))
local-grown (decl.Routine' name formals result shape locals body) d = still d.known

pub locals-grown : (all : List Decl) (d : Declared) → Grown d.known (all_declared false all d).known
locals-grown [] d = still d.known
locals-grown (one ∷ rest) d = next (local-grown one d) (locals-grown rest (declared false one d))

pub row-locals-grown : {n : _} (all : Row_of-Decl n) (d : Declared) → Grown d.known (row_declared all d).known
row-locals-grown end_of-Decl d = still d.known
row-locals-grown (more_of-Decl one rest) d = next (local-grown one d) (row-locals-grown rest (declared false one d))
