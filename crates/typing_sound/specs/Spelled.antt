-- What every tree keeps that the tokens of a text spell, as far as typing rests on it: a number is at most the
-- greatest that a text may have, the signs of a chain are of one level, and an enum has a name. It is a test, by
-- cases on the tree.
use Rattle.std.specs.Prelude.{Bool, true, false, ◌&&◌, nat_le, List, [], ◌∷◌, Option}
use Rattle.std.specs.List.{list_all}
use Rattle.std.specs.Option.{option_map_or}
use Rattle.murphi_ast.specs.Bytes.{greatest_number}
use Rattle.murphi_ast.specs.declared.expr.Expr as e
use Rattle.murphi_ast.specs.declared.expr.Expr.{Expr, Row_of-Expr, end_of-Expr, more_of-Expr, Row_of-Link, end_of-Link, more_of-Link, Row_of-Selector, end_of-Selector, more_of-Selector}
use Rattle.murphi_ast.specs.declared.expr.Selector as part
use Rattle.murphi_ast.specs.declared.expr.Selector.{Selector}
use Rattle.murphi_ast.specs.declared.expr.Designator.{Designator}
use Rattle.murphi_ast.specs.declared.expr.Bind.{Bind}
use Rattle.murphi_ast.specs.declared.expr.TypeExpr as t
use Rattle.murphi_ast.specs.declared.expr.TypeExpr.{TypeExpr, Row_of-FieldDecl, end_of-FieldDecl, more_of-FieldDecl}
use Rattle.murphi_ast.specs.declared.stmt.Stmt as w
use Rattle.murphi_ast.specs.declared.stmt.Stmt.{Stmt, Row_of-Stmt, end_of-Stmt, more_of-Stmt, Row_of-Arm, end_of-Arm, more_of-Arm, Row_of-Case, end_of-Case, more_of-Case}
use Rattle.murphi_ast.specs.declared.decl.Decl as decl
use Rattle.murphi_ast.specs.declared.decl.Decl.{Decl, Row_of-Decl, end_of-Decl, more_of-Decl}
use Rattle.murphi_ast.specs.declared.decl.Formal.{Formal}
use Rattle.murphi_ast.specs.declared.rule.RuleDecl as r
use Rattle.murphi_ast.specs.declared.rule.RuleDecl.{RuleDecl, Row_of-RuleDecl, end_of-RuleDecl, more_of-RuleDecl}
use Rattle.murphi_ast.specs.declared.rule.Protocol.{Protocol}
use Rattle.murphi_ast.specs.Forms.{NotForm, CompareForm, ImpliesForm}
use Rattle.murphi_typed.specs.declared.types.Simple.{Simple}
use Rattle.murphi_typed.specs.WellTyped.{same_simple, operand_type}
use Rattle.murphi_types.specs.Forms.{MinusForm, ChoiceForm, QuantifiedForm, RangeForm, ScalarsetForm, ArrayForm}
use Rattle.murphi_types.specs.Typing.{chain_operands}

-- a list has an item
abbrev pub has_one : {A : Type 0} → List A → Bool
has_one [] = false
has_one (x ∷ xs) = true

unfoldable mutual
  pub is_spelled : Expr → Bool
  is_spelled (e.Number n at) = nat_le n greatest_number
  is_spelled (e.Truth b at) = true
  is_spelled (e.Place' name _ row) = selectors_spelled row
  is_spelled (e.IsUndefined' name _ row at) = selectors_spelled row
  is_spelled (e.Call' name _ args) = args_spelled args
  is_spelled (NotForm body at) = is_spelled body
  is_spelled (MinusForm body at) = is_spelled body
  is_spelled (e.Chain' _ (more_of-Expr first end_of-Expr) _ rest) =
      is_spelled first && links_spelled (chain_operands rest) rest
  is_spelled (CompareForm op left right) = is_spelled left && is_spelled right
  is_spelled (ImpliesForm left right) = is_spelled left && is_spelled right
  is_spelled (ChoiceForm test then' else') = is_spelled test && (is_spelled then' && is_spelled else')
  is_spelled (QuantifiedForm all name over body at) = type_spelled over && is_spelled body

  -- the signs of a chain are of one level, that of operands of this type
  pub links_spelled : {n : _} → Simple → Row_of-Link n → Bool
  links_spelled type end_of-Link = true
  links_spelled type (more_of-Link op operand rest) =
      same_simple (operand_type op) type && (is_spelled operand && links_spelled type rest)

  pub selectors_spelled : {n : _} → Row_of-Selector n → Bool
  selectors_spelled end_of-Selector = true
  selectors_spelled (more_of-Selector (part.Field name) rest) = selectors_spelled rest
  selectors_spelled (more_of-Selector (part.Index index) rest) = is_spelled index && selectors_spelled rest

  pub args_spelled : {n : _} → Row_of-Expr n → Bool
  args_spelled end_of-Expr = true
  args_spelled (more_of-Expr first rest) = is_spelled first && args_spelled rest

  -- a type: an enum has a name
  pub type_spelled : TypeExpr → Bool
  type_spelled (t.Known name) = true
  type_spelled (t.Truth at) = true
  type_spelled (RangeForm low high) = is_spelled low && is_spelled high
  type_spelled (t.Listed names at) = has_one names
  type_spelled (ScalarsetForm size at) = is_spelled size
  type_spelled (t.Fields' _ fields at) = fields_spelled fields
  type_spelled (ArrayForm index item at) = type_spelled index && type_spelled item

  pub fields_spelled : {n : _} → Row_of-FieldDecl n → Bool
  fields_spelled end_of-FieldDecl = true
  fields_spelled (more_of-FieldDecl names body rest) = type_spelled body && fields_spelled rest

-- Statements

abbrev pub selector_spelled : Selector → Bool
selector_spelled (part.Field name) = true
selector_spelled (part.Index index) = is_spelled index

abbrev pub place_spelled : Designator → Bool
place_spelled d = list_all selector_spelled d.selectors

abbrev pub optional_spelled : Option Expr → Bool
optional_spelled given = option_map_or is_spelled given true

unfoldable mutual
  pub stmt_spelled : Stmt → Bool
  stmt_spelled (w.Assign to body) = place_spelled to && is_spelled body
  stmt_spelled (w.Call name args) = list_all is_spelled args
  stmt_spelled (w.If' _ arms _ otherwise at) = arms_spelled arms && stmts_spelled otherwise
  stmt_spelled (w.Switch' on _ cases _ otherwise at) =
      is_spelled on && (cases_spelled cases && stmts_spelled otherwise)
  stmt_spelled (w.For' bind _ body at) = type_spelled bind.over && stmts_spelled body
  stmt_spelled (w.Clear place at) = place_spelled place
  stmt_spelled (w.Undefine place at) = place_spelled place
  stmt_spelled (w.Error at) = true
  stmt_spelled (w.Assert test at) = is_spelled test
  stmt_spelled (w.Put given at) = optional_spelled given
  stmt_spelled (w.Return given at) = optional_spelled given

  pub stmts_spelled : {n : _} → Row_of-Stmt n → Bool
  stmts_spelled end_of-Stmt = true
  stmts_spelled (more_of-Stmt first rest) = stmt_spelled first && stmts_spelled rest

  pub arms_spelled : {n : _} → Row_of-Arm n → Bool
  arms_spelled end_of-Arm = true
  arms_spelled (more_of-Arm test _ body rest) = is_spelled test && (stmts_spelled body && arms_spelled rest)

  pub cases_spelled : {n : _} → Row_of-Case n → Bool
  cases_spelled end_of-Case = true
  cases_spelled (more_of-Case labels _ body rest) =
      list_all is_spelled labels && (stmts_spelled body && cases_spelled rest)

-- Declarations and items

-- a declaration of a constant, a type or variables
abbrev pub simple_spelled : Decl → Bool
simple_spelled (decl.Constant name body) = is_spelled body
simple_spelled (decl.TypeName name body) = type_spelled body
simple_spelled (decl.Variables names body) = type_spelled body
simple_spelled _ = true

abbrev pub locals_spelled : {n : _} → Row_of-Decl n → Bool
locals_spelled end_of-Decl = true
locals_spelled (more_of-Decl one rest) = simple_spelled one && locals_spelled rest

abbrev pub formal_spelled : Formal → Bool
formal_spelled f = type_spelled f.body

-- any declaration
abbrev pub decl_spelled : Decl → Bool
decl_spelled (decl.Routine' name formals result _ locals body) =
    list_all formal_spelled formals
    && (option_map_or type_spelled result true && (locals_spelled locals && list_all stmt_spelled body))
decl_spelled other = simple_spelled other

abbrev pub bind_spelled : Bind → Bool
bind_spelled b = type_spelled b.over

unfoldable mutual
  pub item_spelled : RuleDecl → Bool
  item_spelled (r.Rule title guard locals body at) =
      optional_spelled guard && (list_all simple_spelled locals && list_all stmt_spelled body)
  item_spelled (r.Start title locals body at) = list_all simple_spelled locals && list_all stmt_spelled body
  item_spelled (r.Invariant title body at) = is_spelled body
  item_spelled (r.Group' binds _ items at) = list_all bind_spelled binds && items_spelled items

  pub items_spelled : {n : _} → Row_of-RuleDecl n → Bool
  items_spelled end_of-RuleDecl = true
  items_spelled (more_of-RuleDecl one rest) = item_spelled one && items_spelled rest

abbrev pub text_spelled : Protocol → Bool
text_spelled P = list_all decl_spelled P.decls && list_all item_spelled P.rules
