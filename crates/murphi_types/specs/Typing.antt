-- Typing: what is found of each expression, designator, argument and type where it stands, by cases on how it is
-- written. What an enum declares for the whole text is handed on from part to part, in text order.
use Rattle.std.specs.Prelude.{true, List, [], pos, Option}
use Rattle.term_core.specs.declared.value.Value.TheVariants as value
use Rattle.murphi_ast.specs.declared.token.Span.{Span}
use Rattle.murphi_ast.specs.declared.expr.Expr as e
use Rattle.murphi_ast.specs.declared.expr.Expr.{Expr, Row_of-Expr, end_of-Expr, more_of-Expr, Row_of-Link, end_of-Link, more_of-Link, Row_of-Selector, end_of-Selector, more_of-Selector}
use Rattle.murphi_ast.specs.declared.expr.Selector as part
use Rattle.murphi_ast.specs.declared.expr.TypeExpr as t
use Rattle.murphi_ast.specs.declared.expr.TypeExpr.{TypeExpr, Row_of-FieldDecl, end_of-FieldDecl, more_of-FieldDecl}
use Rattle.murphi_ast.specs.Forms.{NotForm, CompareForm, ImpliesForm}
use Rattle.murphi_typed.specs.declared.types.Simple.{Simple}
use Rattle.murphi_typed.specs.declared.types.Simple.TheVariants as simple
use Rattle.murphi_typed.specs.declared.types.AnyType.{AnyType}
use Rattle.murphi_typed.specs.declared.types.AnyType as typ
use Rattle.murphi_typed.specs.declared.protocol.Formal.{Formal}
use Rattle.murphi_typed.specs.WellTyped.{numbers, operand_type, first_of, rest_of}
use Rattle.murphi_types.specs.declared.scope.Known.{Known}
use Rattle.murphi_types.specs.declared.scope.Scope.{Scope}
use Rattle.murphi_types.specs.Forms.{MinusForm, ChoiceForm, QuantifiedForm, RangeForm, ScalarsetForm, ArrayForm}
use Rattle.murphi_types.specs.Places.{place_of, type_place_of}
use Rattle.murphi_types.specs.Scopes.{looked, binding}
use Rattle.murphi_types.specs.Fitting.{is_truth, is_number, has_values_of, is_equality, left_fits, right_fits, simple_part}
use Rattle.murphi_types.specs.Constants.{is_constant}
use Rattle.murphi_types.specs.Found.{Found, FoundLinks, with_more, wanted, literal, not_found, minus_found, implies_found, compare_found, parts_found, choice_found, no_links, link_found, chain_found}
use Rattle.murphi_types.specs.Designators.{FoundSelectors, chosen, start_type, no_selectors, field_chosen, index_type, index_fits, field_found, item_selected, place_made, read_found, undefined_found}
use Rattle.murphi_types.specs.Calls.{FoundArguments, callee_of, formals_of, no_arguments, arguments_made, placed, valued, call_found}
use Rattle.murphi_types.specs.Types.{FoundType, FoundFields, Naming, Unnamed, number_found, named_type, type_made, range_found, enum_found, scalarset_found, simple_wanted, array_found, no_fields, field_made, record_found, quantified_found}

-- the operands of a chain are of one type, that of its operators
abbrev pub chain_operands : {n : _} → Row_of-Link n → Simple
chain_operands end_of-Link = numbers
chain_operands (more_of-Link op operand rest) = operand_type op

unfoldable mutual
  -- an expression. A number is of the type of all numbers, a truth value of that of truth values.
  pub found : Scope → Known → Expr → Found
  found s k (e.Number n at) = literal numbers (value.Number (pos n)) k
  found s k (e.Truth b at) = literal simple.Truth (value.Truth b) k
  -- a name with fields and indices: the value that it stands for, or a read of its cell
  found s k (e.Place' name _ row) =
      read_found (with_more (start_type name.at (looked s k name.name))
      (λ c. selectors_found s k name.at c.type row) (place_made name.at (looked s k name.name)))
  -- `isundefined(d)`: d has a simple type
  found s k (e.IsUndefined' name _ row at) =
      undefined_found (with_more (start_type name.at (looked s k name.name))
      (λ c. selectors_found s k name.at c.type row) (place_made name.at (looked s k name.name)))
  -- a call: a function that was declared before, one argument that fits for each formal
  found s k (e.Call' name _ args) =
      with_more (callee_of s k name (looked s k name.name))
      (λ c. arguments_found s k name.at (formals_of c) args) (call_found s.in_function name.at)
  -- `! body` of a truth value, `- body` of a number
  found s k (NotForm body at) = not_found (wanted is_truth (place_of body) (found s k body))
  found s k (MinusForm body at) = minus_found (wanted is_number (place_of body) (found s k body))
  -- operands of one level: all truth values, or all numbers
  found s k (e.Chain' _ (more_of-Expr first end_of-Expr) _ rest) =
      with_more (wanted (has_values_of (chain_operands rest)) (place_of first) (found s k first))
      (λ f. links_found s f.known (chain_operands rest) rest) (chain_found (chain_operands rest))
  -- a comparison: simple values of one type by `=` and `!=`, numbers by the others; of two unlike operands the right
  -- is wrong
  found s k (CompareForm op left right) =
      with_more (wanted (left_fits (is_equality op)) (place_of left) (found s k left))
      (λ f. wanted (right_fits (is_equality op) f.type) (place_of right) (found s f.known right)) (compare_found op)
  -- `left -> right` of truth values
  found s k (ImpliesForm left right) =
      with_more (wanted is_truth (place_of left) (found s k left))
      (λ f. wanted is_truth (place_of right) (found s f.known right)) implies_found
  -- `test ? then' : else'`: a truth value, and two simple values of one type
  found s k (ChoiceForm test then' else') =
      with_more (wanted is_truth (place_of test) (found s k test))
      (λ f. with_more (wanted (left_fits true) (place_of then') (found s f.known then'))
      (λ g. wanted (right_fits true g.type) (place_of else') (found s g.known else')) parts_found) choice_found
  -- a quantifier: its variable has a simple type and is seen in its body alone, which is a truth value
  found s k (QuantifiedForm all name over body at) =
      with_more (simple_wanted (type_place_of over) (type_found s k Unnamed over))
      (λ f. wanted is_truth (place_of body) (found (binding s name.name (simple_part f.type)) f.known body))
      (quantified_found all)

  -- the further operands of a chain
  pub links_found : {n : _} → Scope → Known → Simple → Row_of-Link n → FoundLinks
  links_found s k type end_of-Link = no_links k
  links_found s k type (more_of-Link op operand rest) =
      with_more (wanted (has_values_of type) (place_of operand) (found s k operand))
      (λ f. links_found s f.known type rest) (link_found op)

  -- fields and indices after a part of some type, in the designator at this place
  pub selectors_found : {n : _} → Scope → Known → Span → Option AnyType → Row_of-Selector n → FoundSelectors
  selectors_found s k at type end_of-Selector = no_selectors type k
  selectors_found s k at type (more_of-Selector (part.Field name) rest) =
      with_more (field_chosen at name type) (λ c. selectors_found s k at c.type rest) (field_found name)
  selectors_found s k at type (more_of-Selector (part.Index index) rest) =
      with_more (wanted (index_fits (index_type type)) (place_of index) (found s k index))
      (λ f. item_selected at type f (λ c. selectors_found s f.known at c.type rest)) (λ f g. g)

  -- arguments for these formals, in the call at this place
  pub arguments_found : {n : _} → Scope → Known → Span → List Formal → Row_of-Expr n → FoundArguments
  arguments_found s k at formals end_of-Expr = no_arguments k
  arguments_found s k at formals (more_of-Expr (e.Place' name _ row) rest) =
      with_more (placed (first_of formals) (with_more (start_type name.at (looked s k name.name))
      (λ c. selectors_found s k name.at c.type row) (place_made name.at (looked s k name.name))))
      (λ f. arguments_found s f.known at (rest_of formals) rest) arguments_made
  arguments_found s k at formals (more_of-Expr first rest) =
      with_more (valued at (place_of first) (first_of formals) (found s k first))
      (λ f. arguments_found s f.known at (rest_of formals) rest) arguments_made

  -- a type; `naming` is for a scalarset that stands directly behind a name
  pub type_found : Scope → Known → Naming → TypeExpr → FoundType
  -- a name of a type, and `boolean`
  type_found s k naming (t.Known name) = type_made k [] (named_type name.at (looked s k name.name))
  type_found s k naming (t.Truth at) = type_made k [] (chosen (typ.Simple simple.Truth))
  -- `low .. high`, of two constants that are numbers
  type_found s k naming (RangeForm low high) =
      with_more (number_found (is_constant s k low) (place_of low) (found s k low))
      (λ f. number_found (is_constant s f.known high) (place_of high) (found s f.known high))
      (range_found (place_of low))
  -- an enum, and a scalarset, whose size is a constant that is a number
  type_found s k naming (t.Listed names at) = enum_found at names k
  type_found s k naming (ScalarsetForm size at) =
      scalarset_found naming at (number_found (is_constant s k size) (place_of size) (found s k size))
  -- a record, and an array, whose index type is simple
  type_found s k naming (t.Fields' _ fields at) = record_found (fields_found s k fields)
  type_found s k naming (ArrayForm index item at) =
      with_more (simple_wanted (type_place_of index) (type_found s k Unnamed index))
      (λ f. type_found s f.known Unnamed item) array_found

  -- the fields of a record
  pub fields_found : {n : _} → Scope → Known → Row_of-FieldDecl n → FoundFields
  fields_found s k end_of-FieldDecl = no_fields k
  fields_found s k (more_of-FieldDecl names body rest) =
      with_more (type_found s k Unnamed body) (λ f. fields_found s f.known rest) (field_made names)
