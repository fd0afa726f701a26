-- Items declare names and kinds, but no globals and no routines; and what the laws say.
use Rattle.std.proofs.Common.{◌≡◌, false, List, [], ◌∷◌, Option, None, Some, refl, ap, ◌∙◌}
use Rattle.murphi_ast.specs.declared.expr.Expr.{Expr}
use Rattle.murphi_ast.specs.declared.expr.Bind.{Bind}
use Rattle.murphi_ast.specs.declared.stmt.Stmt.{Stmt}
use Rattle.murphi_ast.specs.declared.decl.Decl.{Decl}
use Rattle.murphi_ast.specs.declared.rule.RuleDecl as r
use Rattle.murphi_ast.specs.declared.rule.RuleDecl.{RuleDecl, Row_of-RuleDecl, end_of-RuleDecl, more_of-RuleDecl}
use Rattle.murphi_types.specs.declared.scope.Known.{Known}
use Rattle.murphi_types.specs.declared.scope.Scope.{Scope}
use Rattle.murphi_types.specs.Places.{type_place_of}
use Rattle.murphi_types.specs.Types.{Unnamed, simple_wanted}
use Rattle.murphi_types.specs.Typing.{type_found}
use Rattle.murphi_types.specs.Statements.{AtEnd}
use Rattle.murphi_types.specs.Declarations.{Declared, all_declared}
use Rattle.murphi_types.specs.Items.{Around, FoundBinds, FoundItems, bind_made, binds_found, ruleset_found, guard_found, item_body, entered, item_found, row_found, items_found}
use Rattle.typing_laws.specs.Keeping.{SameRoutines, SameVariables, ExpressionsDeclareNothing, TypesDeclareNoVariables, PlacesDeclareNothing, ArgumentsDeclareNothing, StatementsDeclareNothing, BodiesDeclareNothing, DeclarationsKeepRoutines, LocalsAreNoGlobals, ItemsDeclareNothing, ItemListsDeclareNothing}
use Rattle.typing_laws.proofs.KeptExpressions.{lasting, found-kept, type-kept}
use Rattle.typing_laws.proofs.KeptStatements.{place-kept, list-arguments-kept, stmt-kept, body-kept, routines_of, all-declared-routines, locals-kept}

guard-kept : (s : Scope) (k : Known) (guard : Option Expr) → lasting (guard_found s k guard).known ≡ lasting k
guard-kept s k None = refl
guard-kept s k (Some test) = found-kept s k test

pub item-body-kept : (s : Scope) (k : Known) (guard : Option Expr) (locals : List Decl) (body : List Stmt) → lasting (item_body s k guard locals body).body.known ≡ lasting k
item-body-kept s k guard locals body =
    let start : Declared = record { scope = s; known = (guard_found s k guard).known; locals = []; faults = []; limits = [] } in
    let d = all_declared false locals start in
    body-kept AtEnd d.scope d.known body ∙ locals-kept locals start ∙ guard-kept s k guard

pub binds-kept : (binds : List Bind) (b : FoundBinds) → lasting (binds_found binds b).known ≡ lasting b.known
binds-kept [] b = refl
binds-kept (one ∷ rest) b =
    binds-kept rest (bind_made one b (simple_wanted (type_place_of one.over) (type_found b.around.scope b.known Unnamed one.over)))
    ∙ type-kept b.around.scope b.known Unnamed one.over

mutual
  unfolding item_found

  pub item-kept : (around : Around) (one : RuleDecl) (items : FoundItems) → lasting (item_found around one items).known ≡ lasting items.known
  item-kept around (r.Rule title guard locals body at) items = item-body-kept around.scope items.known guard locals body
  item-kept around (r.Start title locals body at) items = item-body-kept around.scope items.known None locals body
  item-kept around (r.Invariant title body at) items = found-kept around.scope items.known body
  item-kept around (r.Group' binds u inner at) items =
      let b = ruleset_found around items.known binds in
      row-kept b.around inner (entered items b) ∙ binds-kept binds (record { around = around; known = items.known; faults = [] })

  pub row-kept : {n : _} (around : Around) (row : Row_of-RuleDecl n) (items : FoundItems) → lasting (row_found around row items).known ≡ lasting items.known
  row-kept around end_of-RuleDecl items = refl
  row-kept around (more_of-RuleDecl one rest) items = row-kept around rest (item_found around one items) ∙ item-kept around one items

pub items-kept : (around : Around) (all : List RuleDecl) (items : FoundItems) → lasting (items_found around all items).known ≡ lasting items.known
items-kept around [] items = refl
items-kept around (one ∷ rest) items = items-kept around rest (item_found around one items) ∙ item-kept around one items

-- The laws

same_routines : (k l : Known) → routines_of l ≡ routines_of k → SameRoutines k l
same_routines k l e = record { routines = ap (λ p. p.0) e; weights = ap (λ p. p.1) e }

same_variables : (k l : Known) → lasting l ≡ lasting k → SameVariables k l
same_variables k l e = record { globals = ap (λ p. p.0) e; others = same_routines k l (ap (λ p. p.1) e) }

pub expressions : ExpressionsDeclareNothing
expressions s k one = same_variables k _ (found-kept s k one)

pub types : TypesDeclareNoVariables
types s k naming t = same_variables k _ (type-kept s k naming t)

pub places : PlacesDeclareNothing
places s k d = same_variables k _ (place-kept s k d)

pub arguments : ArgumentsDeclareNothing
arguments s k at formals args = same_variables k _ (list-arguments-kept s k at formals args)

pub statements : StatementsDeclareNothing
statements leaving s k one = same_variables k _ (stmt-kept leaving s k one)

pub bodies : BodiesDeclareNothing
bodies leaving s k body = same_variables k _ (body-kept leaving s k body)

pub declarations : DeclarationsKeepRoutines
declarations globally all d = same_routines d.known _ (all-declared-routines globally all d)

pub locals : LocalsAreNoGlobals
locals all d = same_variables d.known _ (locals-kept all d)

pub items : ItemsDeclareNothing
items around one all = same_variables all.known _ (item-kept around one all)

pub lists : ItemListsDeclareNothing
lists around all items = same_variables items.known _ (items-kept around all items)
