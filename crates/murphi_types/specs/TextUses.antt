-- The uses of a global name in a whole text: nothing inner hides it. Formals, locals, parameters and bound variables
-- of the same name do, each from the end of its declaration on.
use Rattle.std.specs.Prelude.{Bool, false, List, [], ◌∷◌, ◌++◌, Option, None, Some, if◌then◌else◌}
use Rattle.std.specs.List.{list_any, flat_map}
use Rattle.std.specs.Str.{bytes_eq}
use Rattle.murphi_ast.specs.declared.token.Span.{Span}
use Rattle.murphi_ast.specs.declared.expr.Named.{Named}
use Rattle.murphi_ast.specs.declared.expr.Expr.{Expr}
use Rattle.murphi_ast.specs.declared.expr.Bind.{Bind}
use Rattle.murphi_ast.specs.declared.expr.Selector as part
use Rattle.murphi_ast.specs.declared.expr.Selector.{Selector}
use Rattle.murphi_ast.specs.declared.expr.Designator.{Designator}
use Rattle.murphi_ast.specs.declared.expr.TypeExpr.{TypeExpr}
use Rattle.murphi_ast.specs.declared.stmt.Stmt as w
use Rattle.murphi_ast.specs.declared.stmt.Stmt.{Stmt, Row_of-Stmt, end_of-Stmt, more_of-Stmt, Row_of-Arm, end_of-Arm, more_of-Arm, Row_of-Case, end_of-Case, more_of-Case}
use Rattle.murphi_ast.specs.declared.decl.Decl as decl
use Rattle.murphi_ast.specs.declared.decl.Decl.{Decl, Row_of-Decl, end_of-Decl, more_of-Decl}
use Rattle.murphi_ast.specs.declared.decl.Formal.{Formal}
use Rattle.murphi_ast.specs.declared.rule.RuleDecl as r
use Rattle.murphi_ast.specs.declared.rule.RuleDecl.{RuleDecl, Row_of-RuleDecl, end_of-RuleDecl, more_of-RuleDecl}
use Rattle.murphi_ast.specs.declared.rule.Protocol.{Protocol}
use Rattle.murphi_typed.specs.Families.{Name}
use Rattle.murphi_types.specs.Forms.{ScalarsetForm}
use Rattle.murphi_types.specs.Uses.{use_at, unless_hidden, uses_in, type_uses}
use Rattle.murphi_types.specs.Written.{names_of}

-- Statements

abbrev pub index_uses : Name → Selector → List Span
index_uses name (part.Field field) = []
index_uses name (part.Index index) = uses_in name index

abbrev pub place_uses : Name → Designator → List Span
place_uses name d = use_at name d.root ++ flat_map (index_uses name) d.selectors

abbrev pub option_uses : Name → Option Expr → List Span
option_uses name (Some body) = uses_in name body
option_uses name None = []

unfoldable mutual
  pub stmt_uses : Name → Stmt → List Span
  stmt_uses name (w.Assign to body) = place_uses name to ++ uses_in name body
  stmt_uses name (w.Call called args) = flat_map (uses_in name) args
  stmt_uses name (w.If' _ arms _ otherwise at) = arms_uses name arms ++ row_uses name otherwise
  stmt_uses name (w.Switch' on _ cases _ otherwise at) =
      uses_in name on ++ (cases_uses name cases ++ row_uses name otherwise)
  stmt_uses name (w.For' bind _ body at) =
      type_uses name bind.over ++ unless_hidden name bind.name (row_uses name body)
  stmt_uses name (w.Clear place at) = place_uses name place
  stmt_uses name (w.Undefine place at) = place_uses name place
  stmt_uses name (w.Error at) = []
  stmt_uses name (w.Assert test at) = uses_in name test
  stmt_uses name (w.Put given at) = option_uses name given
  stmt_uses name (w.Return given at) = option_uses name given

  pub row_uses : {n : _} → Name → Row_of-Stmt n → List Span
  row_uses name end_of-Stmt = []
  row_uses name (more_of-Stmt first rest) = stmt_uses name first ++ row_uses name rest

  pub arms_uses : {n : _} → Name → Row_of-Arm n → List Span
  arms_uses name end_of-Arm = []
  arms_uses name (more_of-Arm test _ body rest) = uses_in name test ++ (row_uses name body ++ arms_uses name rest)

  pub cases_uses : {n : _} → Name → Row_of-Case n → List Span
  cases_uses name end_of-Case = []
  cases_uses name (more_of-Case labels _ body rest) =
      flat_map (uses_in name) labels ++ (row_uses name body ++ cases_uses name rest)

abbrev pub body_uses : Name → List Stmt → List Span
body_uses name body = flat_map (stmt_uses name) body

-- Declarations

-- constants, types and variables
abbrev pub simple_uses : Name → Decl → List Span
simple_uses name (decl.Constant _ body) = uses_in name body
simple_uses name (decl.TypeName _ body) = type_uses name body
simple_uses name (decl.Variables _ body) = type_uses name body
simple_uses name _ = []

-- what follows names is looked at unless one of them hides the name
abbrev pub unless_any : Name → List Named → List Span → List Span
unless_any name names rest = if list_any (λ (n : Named). bytes_eq n.name name) names then [] else rest

-- locals, and what follows them
abbrev pub locals_uses : Name → List Decl → List Span → List Span
locals_uses name [] rest = rest
locals_uses name (one ∷ more) rest =
    simple_uses name one ++ unless_any name (names_of one) (locals_uses name more rest)

abbrev pub row_locals_uses : {n : _} → Name → Row_of-Decl n → List Span → List Span
row_locals_uses name end_of-Decl rest = rest
row_locals_uses name (more_of-Decl one more) rest =
    simple_uses name one ++ unless_any name (names_of one) (row_locals_uses name more rest)

-- formals, and what follows them
abbrev pub formals_uses : Name → List Formal → List Span → List Span
formals_uses name [] rest = rest
formals_uses name (f ∷ fs) rest = type_uses name f.body ++ unless_any name f.names (formals_uses name fs rest)

abbrev pub result_uses : Name → Option TypeExpr → List Span
result_uses name (Some type) = type_uses name type
result_uses name None = []

abbrev pub decl_uses : Name → Decl → List Span
decl_uses name (decl.Routine' _ formals result _ locals body) =
    formals_uses name formals (result_uses name result ++ row_locals_uses name locals (body_uses name body))
decl_uses name other = simple_uses name other

-- the declaration of the node type itself is left out
abbrev pub is_node_type : Name → Decl → Bool
is_node_type node (decl.TypeName name (ScalarsetForm body at)) = bytes_eq name.name node
is_node_type node _ = false

abbrev pub global_uses : Name → Name → Decl → List Span
global_uses node name one = if is_node_type node one then [] else decl_uses name one

-- Items

abbrev pub binds_uses : Name → List Bind → List Span → List Span
binds_uses name [] rest = rest
binds_uses name (b ∷ bs) rest = type_uses name b.over ++ unless_hidden name b.name (binds_uses name bs rest)

unfoldable mutual
  pub item_uses : Name → RuleDecl → List Span
  item_uses name (r.Rule title guard locals body at) =
      option_uses name guard ++ locals_uses name locals (body_uses name body)
  item_uses name (r.Start title locals body at) = locals_uses name locals (body_uses name body)
  item_uses name (r.Invariant title body at) = uses_in name body
  item_uses name (r.Group' binds _ items at) = binds_uses name binds (items_uses name items)

  pub items_uses : {n : _} → Name → Row_of-RuleDecl n → List Span
  items_uses name end_of-RuleDecl = []
  items_uses name (more_of-RuleDecl one rest) = item_uses name one ++ items_uses name rest

-- the uses of a global name in a text whose node type has this name
abbrev pub text_uses : Name → Name → Protocol → List Span
text_uses node name P = flat_map (global_uses node name) P.decls ++ flat_map (item_uses name) P.rules
