-- What typing leaves as it was. An enum or a scalarset may be written wherever a type is, and declares names and a
-- kind for the whole text. Globals and routines are declared by their own declarations alone.
use Rattle.std.specs.Prelude.{◌≡◌, Bool, false, List}
use Rattle.murphi_ast.specs.declared.token.Span.{Span}
use Rattle.murphi_ast.specs.declared.expr.Expr.{Expr}
use Rattle.murphi_ast.specs.declared.expr.Designator.{Designator}
use Rattle.murphi_ast.specs.declared.expr.TypeExpr.{TypeExpr}
use Rattle.murphi_ast.specs.declared.stmt.Stmt.{Stmt}
use Rattle.murphi_ast.specs.declared.decl.Decl.{Decl}
use Rattle.murphi_ast.specs.declared.rule.RuleDecl.{RuleDecl}
use Rattle.murphi_typed.specs.declared.protocol.Formal.{Formal}
use Rattle.murphi_types.specs.declared.scope.Known.{Known}
use Rattle.murphi_types.specs.declared.scope.Scope.{Scope}
use Rattle.murphi_types.specs.Types.{Naming}
use Rattle.murphi_types.specs.Typing.{found, type_found}
use Rattle.murphi_types.specs.Lists.{place_found, list_arguments}
use Rattle.murphi_types.specs.Statements.{Leaving, stmt_found, body_found}
use Rattle.murphi_types.specs.Declarations.{Declared, all_declared}
use Rattle.murphi_types.specs.Items.{Around, FoundItems, item_found, items_found}

-- the same routines, with the same weights
pub record SameRoutines (k l : Known) : Type 0 where
  pub routines : l.routines ≡ k.routines
  pub weights : l.weights ≡ k.weights

-- and the same globals
pub record SameVariables (k l : Known) : Type 0 where
  pub globals : l.globals ≡ k.globals
  pub others : SameRoutines k l

-- Expressions

abbrev pub ExpressionsDeclareNothing : Type 0
ExpressionsDeclareNothing = (s : Scope) (k : Known) (e : Expr) → SameVariables k (found s k e).known

abbrev pub TypesDeclareNoVariables : Type 0
TypesDeclareNoVariables =
    (s : Scope) (k : Known) (naming : Naming) (t : TypeExpr) → SameVariables k (type_found s k naming t).known

abbrev pub PlacesDeclareNothing : Type 0
PlacesDeclareNothing = (s : Scope) (k : Known) (d : Designator) → SameVariables k (place_found s k d).known

abbrev pub ArgumentsDeclareNothing : Type 0
ArgumentsDeclareNothing =
    (s : Scope) (k : Known) (at : Span) (formals : List Formal) (args : List Expr) →
    SameVariables k (list_arguments s k at formals args).known

-- Statements

abbrev pub StatementsDeclareNothing : Type 0
StatementsDeclareNothing =
    (leaving : Leaving) (s : Scope) (k : Known) (one : Stmt) →
    SameVariables k (stmt_found leaving s k one).known

abbrev pub BodiesDeclareNothing : Type 0
BodiesDeclareNothing =
    (leaving : Leaving) (s : Scope) (k : Known) (body : List Stmt) →
    SameVariables k (body_found leaving s k body).known

-- Declarations

abbrev pub DeclarationsKeepRoutines : Type 0
DeclarationsKeepRoutines =
    (globally : Bool) (all : List Decl) (d : Declared) →
    SameRoutines d.known (all_declared globally all d).known

abbrev pub LocalsAreNoGlobals : Type 0
LocalsAreNoGlobals =
    (all : List Decl) (d : Declared) → SameVariables d.known (all_declared false all d).known

-- Items

abbrev pub ItemsDeclareNothing : Type 0
ItemsDeclareNothing =
    (around : Around) (one : RuleDecl) (items : FoundItems) →
    SameVariables items.known (item_found around one items).known

abbrev pub ItemListsDeclareNothing : Type 0
ItemListsDeclareNothing =
    (around : Around) (all : List RuleDecl) (items : FoundItems) →
    SameVariables items.known (items_found around all items).known
