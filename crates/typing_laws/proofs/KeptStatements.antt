-- Statements and declarations of locals declare names and kinds, but no globals and no routines.
use Rattle.std.proofs.Common.{◌≡◌, ℕ, Bool, true, false, List, [], ◌∷◌, Option, None, Some, refl, ap, ◌∙◌}
use Rattle.murphi_ast.specs.declared.token.Span.{Span}
use Rattle.murphi_ast.specs.declared.expr.Named.{Named}
use Rattle.murphi_ast.specs.declared.expr.Expr as e
use Rattle.murphi_ast.specs.declared.expr.Expr.{Expr}
use Rattle.murphi_ast.specs.declared.expr.Selector as part
use Rattle.murphi_ast.specs.declared.expr.Selector.{Selector}
use Rattle.murphi_ast.specs.declared.expr.Designator.{Designator}
use Rattle.murphi_ast.specs.declared.stmt.Stmt as w
use Rattle.murphi_ast.specs.declared.stmt.Stmt.{Stmt, Row_of-Stmt, end_of-Stmt, more_of-Stmt, Row_of-Arm, end_of-Arm, more_of-Arm, Row_of-Case, end_of-Case, more_of-Case}
use Rattle.murphi_ast.specs.declared.decl.Decl as decl
use Rattle.murphi_ast.specs.declared.decl.Decl.{Decl}
use Rattle.murphi_typed.specs.Families.{Name}
use Rattle.murphi_typed.specs.declared.types.AnyType.{AnyType}
use Rattle.murphi_typed.specs.declared.protocol.Formal.{Formal}
use Rattle.murphi_typed.specs.declared.protocol.Routine.{Routine}
use Rattle.murphi_typed.specs.declared.protocol.Variable.{Variable}
use Rattle.murphi_typed.specs.WellTyped.{first_of, rest_of}
use Rattle.murphi_types.specs.declared.scope.Meaning.{Meaning}
use Rattle.murphi_types.specs.declared.scope.Meaning.TheVariants as meaning
use Rattle.murphi_types.specs.declared.scope.Known.{Known}
use Rattle.murphi_types.specs.declared.scope.Scope.{Scope}
use Rattle.murphi_types.specs.Places.{place_of, type_place_of}
use Rattle.murphi_types.specs.Scopes.{looked, binding}
use Rattle.murphi_types.specs.Fitting.{is_simple, simple_part}
use Rattle.murphi_types.specs.Found.{wanted}
use Rattle.murphi_types.specs.Designators.{FoundPlace, start_type, place_made, field_chosen}
use Rattle.murphi_types.specs.Calls.{callee_of, formals_of}
use Rattle.murphi_types.specs.Types.{Unnamed, simple_wanted}
use Rattle.murphi_types.specs.Typing.{found, selectors_found, type_found}
use Rattle.murphi_types.specs.Lists.{list_selectors, place_found, argument_found, list_arguments}
use Rattle.murphi_types.specs.Statements.{Leaving, AtEnd, ByReturn, WithValue, assigned, put, left, labels_found, stmt_found, stmts_found, arms_found, cases_found, body_found}
use Rattle.murphi_types.specs.Declarations.{Declared, declare, next_root, with_variable, declare_variable, declare_variables, naming_of, declared, all_declared}
use Rattle.typing_laws.proofs.KeptExpressions.{lasting, found-kept, selectors-kept, type-kept, placed-kept, other}

-- Designators and arguments in statements

list-selectors-kept : (s : Scope) (k : Known) (at : Span) (of : Option AnyType) (rest : List Selector) → lasting (list_selectors s k at of rest).known ≡ lasting k
list-selectors-kept s k at of [] = refl
list-selectors-kept s k at of (part.Field name ∷ rest) = list-selectors-kept s k at (field_chosen at name of).type rest
list-selectors-kept s k at of (part.Index index ∷ rest) = list-selectors-kept s (found s k index).known at _ rest ∙ found-kept s k index

pub place-kept : (s : Scope) (k : Known) (d : Designator) → lasting (place_found s k d).known ≡ lasting k
place-kept s k d = list-selectors-kept s k d.root.at (start_type d.root.at (looked s k d.root.name)).type d.selectors

argument-kept : (s : Scope) (k : Known) (at : Span) (o : Option Formal) (first : Expr) → lasting (argument_found s k at o first).known ≡ lasting k
argument-kept s k at o (e.Place' root u row) =
    let c = start_type root.at (looked s k root.name) in
    placed-kept o (place_made root.at (looked s k root.name) c (selectors_found s k root.at c.type row)) ∙ selectors-kept s k root.at c.type row
argument-kept s k at o (e.Number n p) = other s k at o (e.Number n p) (found-kept s k (e.Number n p))
argument-kept s k at o (e.Truth b p) = other s k at o (e.Truth b p) (found-kept s k (e.Truth b p))
argument-kept s k at o (e.Call' name u row) = other s k at o (e.Call' name u row) (found-kept s k (e.Call' name u row))
argument-kept s k at o (e.Not' u row p) = other s k at o (e.Not' u row p) (found-kept s k (e.Not' u row p))
argument-kept s k at o (e.Minus' u row p) = other s k at o (e.Minus' u row p) (found-kept s k (e.Minus' u row p))
argument-kept s k at o (e.Chain' u row v links) = other s k at o (e.Chain' u row v links) (found-kept s k (e.Chain' u row v links))
argument-kept s k at o (e.Compare' op u row v right) = other s k at o (e.Compare' op u row v right) (found-kept s k (e.Compare' op u row v right))
argument-kept s k at o (e.Implies' u row v right) = other s k at o (e.Implies' u row v right) (found-kept s k (e.Implies' u row v right))
argument-kept s k at o (e.Choice' a b c d f g) = other s k at o (e.Choice' a b c d f g) (found-kept s k (e.Choice' a b c d f g))
argument-kept s k at o (e.Quantified' all a b c d p) = other s k at o (e.Quantified' all a b c d p) (found-kept s k (e.Quantified' all a b c d p))
argument-kept s k at o (e.IsUndefined' root u row p) = other s k at o (e.IsUndefined' root u row p) (found-kept s k (e.IsUndefined' root u row p))

pub list-arguments-kept : (s : Scope) (k : Known) (at : Span) (formals : List Formal) (args : List Expr) → lasting (list_arguments s k at formals args).known ≡ lasting k
list-arguments-kept s k at formals [] = refl
list-arguments-kept s k at formals (first ∷ rest) =
    list-arguments-kept s (argument_found s k at (first_of formals) first).known at (rest_of formals) rest ∙ argument-kept s k at (first_of formals) first

-- Statements

assigned-kept : (s : Scope) (p : FoundPlace) (body : Expr) → lasting (assigned s p body).known ≡ lasting p.known
assigned-kept s p (e.Place' root u row) = selectors-kept s p.known root.at (start_type root.at (looked s p.known root.name)).type row
assigned-kept s p (e.Number n q) = found-kept s p.known (e.Number n q)
assigned-kept s p (e.Truth b q) = found-kept s p.known (e.Truth b q)
assigned-kept s p (e.Call' name u row) = found-kept s p.known (e.Call' name u row)
assigned-kept s p (e.Not' u row q) = found-kept s p.known (e.Not' u row q)
assigned-kept s p (e.Minus' u row q) = found-kept s p.known (e.Minus' u row q)
assigned-kept s p (e.Chain' u row v links) = found-kept s p.known (e.Chain' u row v links)
assigned-kept s p (e.Compare' op u row v right) = found-kept s p.known (e.Compare' op u row v right)
assigned-kept s p (e.Implies' u row v right) = found-kept s p.known (e.Implies' u row v right)
assigned-kept s p (e.Choice' a b c d f g) = found-kept s p.known (e.Choice' a b c d f g)
assigned-kept s p (e.Quantified' all a b c d q) = found-kept s p.known (e.Quantified' all a b c d q)
assigned-kept s p (e.IsUndefined' root u row q) = found-kept s p.known (e.IsUndefined' root u row q)

labels-kept : (s : Scope) (k : Known) (on : Option AnyType) (labels : List Expr) → lasting (labels_found s k on labels).known ≡ lasting k
labels-kept s k on [] = refl
labels-kept s k on (first ∷ rest) = labels-kept s (found s k first).known on rest ∙ found-kept s k first

put-kept : (s : Scope) (k : Known) (at : Span) (given : Option Expr) → lasting (put s k at given).known ≡ lasting k
put-kept s k at None = refl
put-kept s k at (Some body) = found-kept s k body

left-kept : (s : Scope) (k : Known) (leaving : Leaving) (at : Span) (given : Option Expr) → lasting (left s k leaving at given).known ≡ lasting k
left-kept s k AtEnd at None = refl
left-kept s k AtEnd at (Some body) = refl
left-kept s k ByReturn at None = refl
left-kept s k ByReturn at (Some body) = refl
left-kept s k (WithValue type) at None = refl
left-kept s k (WithValue type) at (Some body) = found-kept s k body

mutual
  unfolding stmt_found

  pub stmt-kept : (l : Leaving) (s : Scope) (k : Known) (one : Stmt) → lasting (stmt_found l s k one).known ≡ lasting k
  stmt-kept l s k (w.Assign to body) = assigned-kept s (place_found s k to) body ∙ place-kept s k to
  stmt-kept l s k (w.Call name args) = list-arguments-kept s k name.at (formals_of (callee_of s k name (looked s k name.name))) args
  stmt-kept l s k (w.If' u arms v otherwise at) = stmts-kept l s (arms_found l s k arms).known otherwise ∙ arms-kept l s k arms
  stmt-kept l s k (w.Switch' on u cases v otherwise at) =
      let f = wanted is_simple (place_of on) (found s k on) in
      stmts-kept l s (cases_found l s f.known f.type cases).known otherwise ∙ cases-kept l s f.known f.type cases ∙ found-kept s k on
  stmt-kept l s k (w.For' bind u body at) =
      let f = simple_wanted (type_place_of bind.over) (type_found s k Unnamed bind.over) in
      stmts-kept l (binding s bind.name.name (simple_part f.type)) f.known body ∙ type-kept s k Unnamed bind.over
  stmt-kept l s k (w.Clear place at) = place-kept s k place
  stmt-kept l s k (w.Undefine place at) = place-kept s k place
  stmt-kept l s k (w.Error at) = refl
  stmt-kept l s k (w.Assert test at) = found-kept s k test
  stmt-kept l s k (w.Put given at) = put-kept s k at given
  stmt-kept l s k (w.Return given at) = left-kept s k l at given

  pub stmts-kept : {n : _} (l : Leaving) (s : Scope) (k : Known) (row : Row_of-Stmt n) → lasting (stmts_found l s k row).known ≡ lasting k
  stmts-kept l s k end_of-Stmt = refl
  stmts-kept l s k (more_of-Stmt first rest) = stmts-kept l s (stmt_found l s k first).known rest ∙ stmt-kept l s k first

  pub arms-kept : {n : _} (l : Leaving) (s : Scope) (k : Known) (row : Row_of-Arm n) → lasting (arms_found l s k row).known ≡ lasting k
  arms-kept l s k end_of-Arm = refl
  arms-kept l s k (more_of-Arm test u body rest) =
      let m = (found s k test).known in
      arms-kept l s (stmts_found l s m body).known rest ∙ stmts-kept l s m body ∙ found-kept s k test

  pub cases-kept : {n : _} (l : Leaving) (s : Scope) (k : Known) (on : Option AnyType) (row : Row_of-Case n) → lasting (cases_found l s k on row).known ≡ lasting k
  cases-kept l s k on end_of-Case = refl
  cases-kept l s k on (more_of-Case labels u body rest) =
      let m = (labels_found s k on labels).known in
      cases-kept l s (stmts_found l s m body).known on rest ∙ stmts-kept l s m body ∙ labels-kept s k on labels

pub body-kept : (l : Leaving) (s : Scope) (k : Known) (body : List Stmt) → lasting (body_found l s k body).known ≡ lasting k
body-kept l s k [] = refl
body-kept l s k (first ∷ rest) = body-kept l s (stmt_found l s k first).known rest ∙ stmt-kept l s k first

-- Declarations

-- the routines with their weights
abbrev pub routines_of : Known → List Routine × List ℕ
routines_of k = (k.routines, k.weights)

declare-routines : (g : Bool) (name : Name) (what : Meaning) (d : Declared) → routines_of (declare g name what d).known ≡ routines_of d.known
declare-routines true name what d = refl
declare-routines false name what d = refl

variable-routines : (g : Bool) (v : Variable) (d : Declared) → routines_of (with_variable g v d).known ≡ routines_of d.known
variable-routines true v d = refl
variable-routines false v d = refl

name-routines : (g : Bool) (name : Name) (type : Option AnyType) (d : Declared) → routines_of (declare_variable g name type d).known ≡ routines_of d.known
name-routines g name None d = declare-routines g name meaning.Refused d
name-routines g name (Some type) d =
    let v : Variable = record { name = name; of = type } in
    declare-routines g name (meaning.Variable (next_root g d) type) (with_variable g v d) ∙ variable-routines g v d

names-routines : (g : Bool) (names : List Named) (type : Option AnyType) (d : Declared) → routines_of (declare_variables g names type d).known ≡ routines_of d.known
names-routines g [] type d = refl
names-routines g (n ∷ ns) type d = names-routines g ns type (declare_variable g n.name type d) ∙ name-routines g n.name type d

routines-kept : (k l : Known) → lasting l ≡ lasting k → routines_of l ≡ routines_of k
routines-kept k l same = ap (λ p. p.1) same

pub declared-routines : (g : Bool) (one : Decl) (d : Declared) → routines_of (declared g one d).known ≡ routines_of d.known
declared-routines g (decl.Constant name body) d =
    declare-routines g name.name _ (record d { known = (found d.scope d.known body).known; faults = _ })
    ∙ routines-kept d.known (found d.scope d.known body).known (found-kept d.scope d.known body)
declared-routines g (decl.TypeName name body) d =
    let f = type_found d.scope d.known (naming_of g d.scope.node name.name) body in
    declare-routines g name.name _ (record d { known = f.known; faults = _ })
    ∙ routines-kept d.known f.known (type-kept d.scope d.known (naming_of g d.scope.node name.name) body)
declared-routines g (decl.Variables names body) d =
    let f = type_found d.scope d.known Unnamed body in
    names-routines g names f.type (record d { known = f.known; faults = _ })
    ∙ routines-kept d.known f.known (type-kept d.scope d.known Unnamed body)
declared-routines g (decl.Routine' name formals result shape locals body) d = refl

pub all-declared-routines : (g : Bool) (all : List Decl) (d : Declared) → routines_of (all_declared g all d).known ≡ routines_of d.known
all-declared-routines g [] d = refl
all-declared-routines g (one ∷ rest) d = all-declared-routines g rest (declared g one d) ∙ declared-routines g one d

-- Locals

name-kept : (name : Name) (type : Option AnyType) (d : Declared) → lasting (declare_variable false name type d).known ≡ lasting d.known
name-kept name None d = refl
name-kept name (Some type) d = refl

names-kept : (names : List Named) (type : Option AnyType) (d : Declared) → lasting (declare_variables false names type d).known ≡ lasting d.known
names-kept [] type d = refl
names-kept (n ∷ ns) type d = names-kept ns type (declare_variable false n.name type d) ∙ name-kept n.name type d

local-kept : (one : Decl) (d : Declared) → lasting (declared false one d).known ≡ lasting d.known
local-kept (decl.Constant name body) d = found-kept d.scope d.known body
local-kept (decl.TypeName name body) d = type-kept d.scope d.known (naming_of false d.scope.node name.name) body
local-kept (decl.Variables names body) d =
    names-kept names (type_found d.scope d.known Unnamed body).type (record d { known = (type_found d.scope d.known Unnamed body).known; faults = _ })
    ∙ type-kept d.scope d.known Unnamed body
local-kept (decl.Routine' name formals result shape locals body) d = refl

pub locals-kept : (all : List Decl) (d : Declared) → lasting (all_declared false all d).known ≡ lasting d.known
locals-kept [] d = refl
locals-kept (one ∷ rest) d = locals-kept rest (declared false one d) ∙ local-kept one d
