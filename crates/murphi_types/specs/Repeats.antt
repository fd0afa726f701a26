-- Names that are declared twice in one scope: E06 at the second of them in text order. Enum names are declared for
-- the whole text wherever an enum is written; the fields of a record are a scope of their own.
use Rattle.std.specs.Prelude.{Bool, not, List, [], ◌∷◌, ◌++◌}
use Rattle.std.specs.List.{list_any}
use Rattle.std.specs.Str.{bytes_eq}
use Rattle.murphi_ast.specs.declared.expr.Named.{Named}
use Rattle.murphi_ast.specs.declared.expr.Expr as e
use Rattle.murphi_ast.specs.declared.expr.Expr.{Expr, Row_of-Expr, end_of-Expr, more_of-Expr, Row_of-Link, end_of-Link, more_of-Link, Row_of-Selector, end_of-Selector, more_of-Selector}
use Rattle.murphi_ast.specs.declared.expr.Selector as part
use Rattle.murphi_ast.specs.declared.expr.TypeExpr as t
use Rattle.murphi_ast.specs.declared.expr.TypeExpr.{TypeExpr, Row_of-FieldDecl, end_of-FieldDecl, more_of-FieldDecl}
use Rattle.murphi_ast.specs.Forms.{NotForm, CompareForm, ImpliesForm}
use Rattle.murphi_typed.specs.Families.{Name}
use Rattle.murphi_types.specs.declared.fault.Cause.TheVariants as cause
use Rattle.murphi_types.specs.declared.fault.Fault.{Fault}
use Rattle.murphi_types.specs.Faults.{unless}
use Rattle.murphi_types.specs.Forms.{MinusForm, ChoiceForm, QuantifiedForm, RangeForm, ScalarsetForm, ArrayForm}

abbrev pub is_among : Name → List Name → Bool
is_among name names = list_any (λ n. bytes_eq n name) names

-- names that come after others of one scope: each that was there has its fault
abbrev pub repeats : List Name → List Named → List Fault
repeats before [] = []
repeats before (n ∷ ns) = unless (not (is_among n.name before)) cause.E06 n.at ++ repeats (n.name ∷ before) ns

-- the names of one scope
abbrev pub repeats_in : List Named → List Fault
repeats_in names = repeats [] names

-- the names of the fields of a record
abbrev pub field_names : {n : _} → Row_of-FieldDecl n → List Named
field_names end_of-FieldDecl = []
field_names (more_of-FieldDecl names body rest) = names ++ field_names rest

unfoldable mutual
  -- the enum names that are written in an expression, in text order
  pub enum_names : Expr → List Named
  enum_names (e.Number n at) = []
  enum_names (e.Truth b at) = []
  enum_names (e.Place' name _ row) = selector_enums row
  enum_names (e.IsUndefined' name _ row at) = selector_enums row
  enum_names (e.Call' name _ args) = argument_enums args
  enum_names (NotForm body at) = enum_names body
  enum_names (MinusForm body at) = enum_names body
  enum_names (e.Chain' _ (more_of-Expr first end_of-Expr) _ rest) = enum_names first ++ link_enums rest
  enum_names (CompareForm op left right) = enum_names left ++ enum_names right
  enum_names (ImpliesForm left right) = enum_names left ++ enum_names right
  enum_names (ChoiceForm test then' else') = enum_names test ++ (enum_names then' ++ enum_names else')
  enum_names (QuantifiedForm all name over body at) = type_enums over ++ enum_names body

  pub link_enums : {n : _} → Row_of-Link n → List Named
  link_enums end_of-Link = []
  link_enums (more_of-Link op operand rest) = enum_names operand ++ link_enums rest

  pub selector_enums : {n : _} → Row_of-Selector n → List Named
  selector_enums end_of-Selector = []
  selector_enums (more_of-Selector (part.Field name) rest) = selector_enums rest
  selector_enums (more_of-Selector (part.Index index) rest) = enum_names index ++ selector_enums rest

  pub argument_enums : {n : _} → Row_of-Expr n → List Named
  argument_enums end_of-Expr = []
  argument_enums (more_of-Expr first rest) = enum_names first ++ argument_enums rest

  -- and in a type
  pub type_enums : TypeExpr → List Named
  type_enums (t.Known name) = []
  type_enums (t.Truth at) = []
  type_enums (RangeForm low high) = enum_names low ++ enum_names high
  type_enums (t.Listed names at) = names
  type_enums (ScalarsetForm size at) = enum_names size
  type_enums (t.Fields' _ fields at) = field_enums fields
  type_enums (ArrayForm index item at) = type_enums index ++ type_enums item

  pub field_enums : {n : _} → Row_of-FieldDecl n → List Named
  field_enums end_of-FieldDecl = []
  field_enums (more_of-FieldDecl names body rest) = type_enums body ++ field_enums rest

unfoldable mutual
  -- the faults of fields of one name, in the records that are written in an expression
  pub field_repeats : Expr → List Fault
  field_repeats (e.Number n at) = []
  field_repeats (e.Truth b at) = []
  field_repeats (e.Place' name _ row) = selector_repeats row
  field_repeats (e.IsUndefined' name _ row at) = selector_repeats row
  field_repeats (e.Call' name _ args) = argument_repeats args
  field_repeats (NotForm body at) = field_repeats body
  field_repeats (MinusForm body at) = field_repeats body
  field_repeats (e.Chain' _ (more_of-Expr first end_of-Expr) _ rest) = field_repeats first ++ link_repeats rest
  field_repeats (CompareForm op left right) = field_repeats left ++ field_repeats right
  field_repeats (ImpliesForm left right) = field_repeats left ++ field_repeats right
  field_repeats (ChoiceForm test then' else') =
      field_repeats test ++ (field_repeats then' ++ field_repeats else')
  field_repeats (QuantifiedForm all name over body at) = type_repeats over ++ field_repeats body

  pub link_repeats : {n : _} → Row_of-Link n → List Fault
  link_repeats end_of-Link = []
  link_repeats (more_of-Link op operand rest) = field_repeats operand ++ link_repeats rest

  pub selector_repeats : {n : _} → Row_of-Selector n → List Fault
  selector_repeats end_of-Selector = []
  selector_repeats (more_of-Selector (part.Field name) rest) = selector_repeats rest
  selector_repeats (more_of-Selector (part.Index index) rest) = field_repeats index ++ selector_repeats rest

  pub argument_repeats : {n : _} → Row_of-Expr n → List Fault
  argument_repeats end_of-Expr = []
  argument_repeats (more_of-Expr first rest) = field_repeats first ++ argument_repeats rest

  -- and in a type
  pub type_repeats : TypeExpr → List Fault
  type_repeats (t.Known name) = []
  type_repeats (t.Truth at) = []
  type_repeats (RangeForm low high) = field_repeats low ++ field_repeats high
  type_repeats (t.Listed names at) = []
  type_repeats (ScalarsetForm size at) = field_repeats size
  type_repeats (t.Fields' _ fields at) = repeats_in (field_names fields) ++ fields_repeats fields
  type_repeats (ArrayForm index item at) = type_repeats index ++ type_repeats item

  pub fields_repeats : {n : _} → Row_of-FieldDecl n → List Fault
  fields_repeats end_of-FieldDecl = []
  fields_repeats (more_of-FieldDecl names body rest) = type_repeats body ++ fields_repeats rest
