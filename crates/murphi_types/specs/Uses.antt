-- The places where a name of the whole text is used, in text order: where it stands for a value or a variable, and
-- nothing inner hides it. The constant that is the size of the node type is held against the symmetry rules by
-- these. A field is no use, and neither is a called name.
use Rattle.std.specs.Prelude.{List, [], ◌∷◌, ◌++◌, if◌then◌else◌, Option, None, Some}
use Rattle.std.specs.Str.{bytes_eq}
use Rattle.murphi_ast.specs.declared.token.Span.{Span}
use Rattle.murphi_ast.specs.declared.expr.Named.{Named}
use Rattle.murphi_ast.specs.declared.expr.Expr as e
use Rattle.murphi_ast.specs.declared.expr.Expr.{Expr, Row_of-Expr, end_of-Expr, more_of-Expr, Row_of-Link, end_of-Link, more_of-Link, Row_of-Selector, end_of-Selector, more_of-Selector}
use Rattle.murphi_ast.specs.declared.expr.Selector as part
use Rattle.murphi_ast.specs.declared.expr.TypeExpr as t
use Rattle.murphi_ast.specs.declared.expr.TypeExpr.{TypeExpr, Row_of-FieldDecl, end_of-FieldDecl, more_of-FieldDecl}
use Rattle.murphi_ast.specs.Forms.{NotForm, CompareForm, ImpliesForm}
use Rattle.murphi_typed.specs.Families.{Name}
use Rattle.murphi_types.specs.Forms.{MinusForm, ChoiceForm, QuantifiedForm, RangeForm, ScalarsetForm, ArrayForm}

-- a name that is written
abbrev pub use_at : Name → Named → List Span
use_at name written = if bytes_eq written.name name then written.at ∷ [] else []

-- a bound variable of the same name hides it
abbrev pub unless_hidden : Name → Named → List Span → List Span
unless_hidden name bound inside = if bytes_eq bound.name name then [] else inside

unfoldable mutual
  pub uses_in : Name → Expr → List Span
  uses_in name (e.Number n at) = []
  uses_in name (e.Truth b at) = []
  uses_in name (e.Place' root _ row) = use_at name root ++ selector_uses name row
  uses_in name (e.IsUndefined' root _ row at) = use_at name root ++ selector_uses name row
  uses_in name (e.Call' called _ args) = argument_uses name args
  uses_in name (NotForm body at) = uses_in name body
  uses_in name (MinusForm body at) = uses_in name body
  uses_in name (e.Chain' _ (more_of-Expr first end_of-Expr) _ rest) = uses_in name first ++ link_uses name rest
  uses_in name (CompareForm op left right) = uses_in name left ++ uses_in name right
  uses_in name (ImpliesForm left right) = uses_in name left ++ uses_in name right
  uses_in name (ChoiceForm test then' else') = uses_in name test ++ (uses_in name then' ++ uses_in name else')
  uses_in name (QuantifiedForm all bound over body at) =
      type_uses name over ++ unless_hidden name bound (uses_in name body)

  pub link_uses : {n : _} → Name → Row_of-Link n → List Span
  link_uses name end_of-Link = []
  link_uses name (more_of-Link op operand rest) = uses_in name operand ++ link_uses name rest

  pub selector_uses : {n : _} → Name → Row_of-Selector n → List Span
  selector_uses name end_of-Selector = []
  selector_uses name (more_of-Selector (part.Field field) rest) = selector_uses name rest
  selector_uses name (more_of-Selector (part.Index index) rest) = uses_in name index ++ selector_uses name rest

  pub argument_uses : {n : _} → Name → Row_of-Expr n → List Span
  argument_uses name end_of-Expr = []
  argument_uses name (more_of-Expr first rest) = uses_in name first ++ argument_uses name rest

  -- and in a type
  pub type_uses : Name → TypeExpr → List Span
  type_uses name (t.Known written) = []
  type_uses name (t.Truth at) = []
  type_uses name (RangeForm low high) = uses_in name low ++ uses_in name high
  type_uses name (t.Listed names at) = []
  type_uses name (ScalarsetForm size at) = uses_in name size
  type_uses name (t.Fields' _ fields at) = field_uses name fields
  type_uses name (ArrayForm index item at) = type_uses name index ++ type_uses name item

  pub field_uses : {n : _} → Name → Row_of-FieldDecl n → List Span
  field_uses name end_of-FieldDecl = []
  field_uses name (more_of-FieldDecl names body rest) = type_uses name body ++ field_uses name rest

-- the uses of a name, if there is one
abbrev pub uses_of : Option Name → Expr → List Span
uses_of (Some name) body = uses_in name body
uses_of None body = []
