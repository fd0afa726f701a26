-- Which typed trees are well typed: what every protocol that is typed keeps, and what the laws of the meaning
-- ask for. It is a test, by cases on the tree.
use Rattle.std.specs.Prelude.{ℕ, Bool, true, false, not, ◌&&◌, nat_eq, nat_lt, nat_le, List, [], ◌∷◌, ◌++◌, map, length, pos, negsuc, int_le, Option, None, Some, option_and_then, option_map, if◌then◌else◌, slice_get, is_some, ◌-ℤ◌}
use Rattle.std.specs.List.{list_all}
use Rattle.std.specs.Option.{option_map_or}
use Rattle.std.specs.Str.{bytes_eq}
use Rattle.term_core.specs.declared.value.Value.{Value}
use Rattle.term_core.specs.declared.value.Value.TheVariants as value
use Rattle.term_core.specs.Values.{same_number, is_number}
use Rattle.murphi_ast.specs.declared.expr.ChainOp.{ChainOp}
use Rattle.murphi_ast.specs.declared.expr.ChainOp.TheVariants as op
use Rattle.murphi_ast.specs.declared.expr.CompareOp.{CompareOp}
use Rattle.murphi_ast.specs.declared.expr.CompareOp.TheVariants as compare
use Rattle.murphi_typed.specs.declared.types.Simple.{Simple}
use Rattle.murphi_typed.specs.declared.types.Simple.TheVariants as simple
use Rattle.murphi_typed.specs.declared.types.AnyType as t
use Rattle.murphi_typed.specs.declared.types.AnyType.{AnyType, Row_of-Field, end_of-Field, more_of-Field}
use Rattle.murphi_typed.specs.declared.types.Kind.{Kind}
use Rattle.murphi_typed.specs.declared.types.Kind.TheVariants as kind
use Rattle.murphi_typed.specs.declared.expr.Root.{Root}
use Rattle.murphi_typed.specs.declared.expr.Root.TheVariants as root
use Rattle.murphi_typed.specs.declared.expr.Expr as x
use Rattle.murphi_typed.specs.declared.expr.Expr.{Expr, end_of-Expr, more_of-Expr, Row_of-Link, end_of-Link, more_of-Link}
use Rattle.murphi_typed.specs.declared.expr.Designator as d
use Rattle.murphi_typed.specs.declared.expr.Designator.{Designator, Row_of-Selector, end_of-Selector, more_of-Selector}
use Rattle.murphi_typed.specs.declared.expr.Selector as select
use Rattle.murphi_typed.specs.declared.expr.Arguments as a
use Rattle.murphi_typed.specs.declared.expr.Arguments.{Arguments, Row_of-Argument, end_of-Argument, more_of-Argument}
use Rattle.murphi_typed.specs.declared.expr.Argument as argument
use Rattle.murphi_typed.specs.declared.stmt.Stmt as s
use Rattle.murphi_typed.specs.declared.stmt.Stmt.{Stmt, Row_of-Stmt, end_of-Stmt, more_of-Stmt, Row_of-Arm, end_of-Arm, more_of-Arm, Row_of-Case, end_of-Case, more_of-Case}
use Rattle.murphi_typed.specs.declared.protocol.Formal.{Formal}
use Rattle.murphi_typed.specs.declared.protocol.Variable.{Variable}
use Rattle.murphi_typed.specs.declared.protocol.Parameter.{Parameter}
use Rattle.murphi_typed.specs.declared.protocol.Guard.{Guard}
use Rattle.murphi_typed.specs.declared.protocol.Routine.{Routine}
use Rattle.murphi_typed.specs.declared.protocol.Rule.{Rule}
use Rattle.murphi_typed.specs.declared.protocol.Start.{Start}
use Rattle.murphi_typed.specs.declared.protocol.TypedFormula.{TypedFormula}
use Rattle.murphi_typed.specs.declared.protocol.Typed.{Typed}
use Rattle.murphi_typed.specs.Forms.{ArrayForm, NotForm, MinusForm, CompareForm, ImpliesForm, ChoiceForm, QuantifiedForm}
use Rattle.murphi_typed.specs.Values.{numbers_within}
use Rattle.murphi_typed.specs.Families.{Name}

-- Types

-- the type of all numbers, which is that of every number that is worked out
abbrev pub numbers : Simple
numbers = simple.Range (negsuc 32767) (pos 32767)

-- the type that a value of a simple type has in an expression: subranges count as one type
abbrev pub widened : Simple → Simple
widened (simple.Range low high) = numbers
widened type = type

-- two simple types are one: the same kind, or the same bounds
abbrev pub same_simple : Simple → Simple → Bool
same_simple simple.Truth simple.Truth = true
same_simple (simple.Range low high) (simple.Range other more) = same_number low other && same_number high more
same_simple (simple.Listed kind count) (simple.Listed other more) = nat_eq kind other && nat_eq count more
same_simple (simple.Scalarset kind count) (simple.Scalarset other more) = nat_eq kind other && nat_eq count more
same_simple simple.Node simple.Node = true
same_simple _ _ = false

-- a kind of members, as the protocol has it
abbrev pub is_listed : Option Kind → ℕ → Bool
is_listed (Some (kind.Listed names)) count = nat_eq (length names) count
is_listed _ count = false

abbrev pub is_scalarset : Option Kind → ℕ → Bool
is_scalarset (Some (kind.Scalarset name size)) count = nat_eq size count
is_scalarset _ count = false

-- a simple type of the protocol: its bounds are numbers and in order, its kind is one of the protocol's, and it
-- has 1 to 256 values
abbrev pub is_simple_type : List Kind → Simple → Bool
is_simple_type kinds simple.Truth = true
is_simple_type kinds (simple.Range low high) =
    is_number low && (is_number high && (int_le low high && nat_le (numbers_within (high -ℤ low)) 256))
is_simple_type kinds (simple.Listed kind count) =
    is_listed (slice_get kinds kind) count && (nat_lt 0 count && nat_le count 256)
is_simple_type kinds (simple.Scalarset kind count) =
    is_scalarset (slice_get kinds kind) count && (nat_lt 0 count && nat_le count 256)
is_simple_type kinds simple.Node = true

-- the type of a field of a record
abbrev pub row_field : {n : _} → Row_of-Field n → Name → Option AnyType
row_field end_of-Field name = None
row_field (more_of-Field field type rest) name = if bytes_eq field name then Some type else row_field rest name

unfoldable mutual
  -- a type of the protocol: no record has two fields of one name
  pub is_type : List Kind → AnyType → Bool
  is_type kinds (t.Simple type) = is_simple_type kinds type
  is_type kinds (t.Record' _ fields) = are_fields kinds fields
  is_type kinds (ArrayForm index item) = is_simple_type kinds index && is_type kinds item

  pub are_fields : {n : _} → List Kind → Row_of-Field n → Bool
  are_fields kinds end_of-Field = true
  are_fields kinds (more_of-Field name type rest) =
      is_type kinds type && (not (is_some (row_field rest name)) && are_fields kinds rest)

unfoldable mutual
  -- each part of a type is one of the other's, under the same names
  pub has_parts : AnyType → AnyType → Bool
  has_parts (t.Simple type) (t.Simple other) = same_simple type other
  has_parts (t.Record' _ fields) (t.Record' _ others) = each_field fields (row_field others)
  has_parts (ArrayForm index item) (ArrayForm other more) = same_simple index other && has_parts item more
  has_parts _ _ = false

  pub each_field : {n : _} → Row_of-Field n → (Name → Option AnyType) → Bool
  each_field end_of-Field field = true
  each_field (more_of-Field name type rest) field =
      option_map_or (has_parts type) (field name) false && each_field rest field

-- two types are one: each has the parts of the other under the same names, in whatever order
abbrev pub same_type : AnyType → AnyType → Bool
same_type type other = has_parts type other && has_parts other type

-- Scopes

-- how a body may be left: a rule or a start state only at its end, a procedure by `return`, a function by
-- `return` with a value
pub data Exit : Type 0 where
  AtEnd : Exit
  ByReturn : Exit
  WithValue : Simple → Exit

-- what a body, or an expression in it, may name: the routines that stand before it, and the types of the bound
-- variables from the outermost
pub record Scope : Type 0 where
  pub kinds : List Kind
  pub globals : List Variable
  pub routines : List Routine
  pub formals : List Formal
  pub locals : List Variable
  pub bound : List Simple
  pub exit : Exit

abbrev pub binding : Scope → Simple → Scope
binding scope over = record scope { bound = scope.bound ++ over ∷ [] }

abbrev pub variable_type : Option Variable → Option AnyType
variable_type found = option_map (λ (v : Variable). v.of) found

-- the type of a formal of this mode
abbrev pub formal_type : Bool → Option Formal → Option AnyType
formal_type by_place None = None
formal_type true (Some f) = if f.by_place then Some f.of else None
formal_type false (Some f) = if f.by_place then None else Some f.of

abbrev pub root_type : Scope → Root → Option AnyType
root_type scope (root.Global k) = variable_type (slice_get scope.globals k)
root_type scope (root.Local k) = variable_type (slice_get scope.locals k)
root_type scope (root.Formal k) = formal_type false (slice_get scope.formals k)
root_type scope (root.Place k) = formal_type true (slice_get scope.formals k)

abbrev pub is_function : Exit → Bool
is_function (WithValue type) = true
is_function _ = false

-- a body may write its locals and its `var` formals, and the globals unless it is a function's; a formal by value
-- is not written
abbrev pub may_write : Scope → Root → Bool
may_write scope (root.Global k) = not (is_function scope.exit)
may_write scope (root.Local k) = true
may_write scope (root.Formal k) = false
may_write scope (root.Place k) = true

abbrev pub root_of : Designator → Root
root_of (d.Of' root _ selectors at) = root

-- Parts of expressions

abbrev pub simple_part : Option AnyType → Option Simple
simple_part (Some (t.Simple type)) = Some type
simple_part _ = None

abbrev pub field_part : Option AnyType → Name → Option AnyType
field_part (Some (t.Record' _ fields)) name = row_field fields name
field_part _ name = None

-- the item type of an array with this index type
abbrev pub item_part : Option AnyType → Simple → Option AnyType
item_part (Some (ArrayForm index item)) over = if same_simple index over then Some item else None
item_part _ over = None

-- whether an expression's type is that of values of a simple type
abbrev pub is_of : Simple → Option Simple → Bool
is_of type found = option_map_or (same_simple (widened type)) found false

-- a type, if a test passes
abbrev pub only_if : {A : Type 0} → Bool → Option A → Option A
only_if true found = found
only_if false found = None

-- the type of an enum name
abbrev pub enum_type : ℕ → ℕ → Option Kind → Option Simple
enum_type number index (Some (kind.Listed names)) =
    only_if (nat_lt index (length names)) (Some (simple.Listed number (length names)))
enum_type number index _ = None

abbrev pub known_type : List Kind → Value → Option Simple
known_type kinds (value.Truth b) = Some simple.Truth
known_type kinds (value.Number z) = only_if (is_number z) (Some numbers)
known_type kinds (value.Member number index) = enum_type number index (slice_get kinds number)
known_type kinds value.Undefined = None
known_type kinds (value.Node n) = None

-- the type of the operands of a chain, which is also that of the chain
abbrev pub operand_type : ChainOp → Simple
operand_type op.And = simple.Truth
operand_type op.Or = simple.Truth
operand_type _ = numbers

-- the operands of a comparison: of one type, or numbers
abbrev pub comparable : CompareOp → Option Simple → Option Simple → Bool
comparable compare.Equal (Some left) right = option_map_or (same_simple left) right false
comparable compare.NotEqual (Some left) right = option_map_or (same_simple left) right false
comparable compare.Equal None right = false
comparable compare.NotEqual None right = false
comparable _ left right = is_of numbers left && is_of numbers right

abbrev pub is_compound : AnyType → Bool
is_compound (t.Simple type) = false
is_compound _ = true

-- what is given to a formal: by value, values of one simple type, or a compound of the same type; by `var`, a
-- place of the same type
abbrev pub place_fits : AnyType → Option AnyType → Bool
place_fits type found = option_map_or (same_type type) found false

abbrev pub given_place : Option Formal → Option AnyType → Bool
given_place (Some f) found = f.by_place && place_fits f.of found
given_place None found = false

abbrev pub given_compound : Option Formal → Option AnyType → Bool
given_compound (Some f) found = not f.by_place && (is_compound f.of && place_fits f.of found)
given_compound None found = false

abbrev pub given_value : Option Formal → Option Simple → Bool
given_value (Some f) found =
    not f.by_place && option_map_or (λ type. is_of type found) (simple_part (Some f.of)) false
given_value None found = false

abbrev pub first_of : {A : Type 0} → List A → Option A
first_of [] = None
first_of (x ∷ xs) = Some x

abbrev pub rest_of : {A : Type 0} → List A → List A
rest_of [] = []
rest_of (x ∷ xs) = xs

unfoldable mutual
  -- the type of an expression, if it is well typed
  pub type_of : Scope → Expr → Option Simple
  type_of scope (x.Known v) = known_type scope.kinds v
  type_of scope (x.Bound k) = option_map widened (slice_get scope.bound k)
  type_of scope (x.Read place) = option_map widened (simple_part (place_type scope place))
  type_of scope (x.Call k args at) =
      option_and_then (λ r. only_if (arguments_fit scope r.formals args) (option_map widened r.result))
      (slice_get scope.routines k)
  type_of scope (NotForm body) = only_if (is_of simple.Truth (type_of scope body)) (Some simple.Truth)
  type_of scope (MinusForm body) = only_if (is_of numbers (type_of scope body)) (Some numbers)
  type_of scope (x.Chain' _ (more_of-Expr first end_of-Expr) _ rest) = chain_type scope (type_of scope first) rest
  type_of scope (CompareForm op left right) =
      only_if (comparable op (type_of scope left) (type_of scope right)) (Some simple.Truth)
  type_of scope (ImpliesForm left right) =
      only_if (is_of simple.Truth (type_of scope left) && is_of simple.Truth (type_of scope right))
      (Some simple.Truth)
  type_of scope (ChoiceForm test then' else') =
      only_if (is_of simple.Truth (type_of scope test) && comparable compare.Equal (type_of scope then')
      (type_of scope else')) (type_of scope then')
  type_of scope (QuantifiedForm all over body) =
      only_if (is_simple_type scope.kinds over && is_of simple.Truth (type_of (binding scope over) body))
      (Some simple.Truth)
  type_of scope (x.IsUndefined place) = only_if (is_some (simple_part (place_type scope place))) (Some simple.Truth)

  -- the type of a chain, given that of the operands before the row
  pub chain_type : {n : _} → Scope → Option Simple → Row_of-Link n → Option Simple
  chain_type scope before end_of-Link = before
  chain_type scope before (more_of-Link op operand rest) =
      chain_type scope (only_if (is_of (operand_type op) before && is_of (operand_type op) (type_of scope operand))
      (Some (operand_type op))) rest

  -- the type of a designator
  pub place_type : Scope → Designator → Option AnyType
  place_type scope (d.Of' root _ selectors at) = selected_type scope (root_type scope root) selectors

  pub selected_type : {n : _} → Scope → Option AnyType → Row_of-Selector n → Option AnyType
  selected_type scope found end_of-Selector = found
  selected_type scope found (more_of-Selector (select.Field name) rest) =
      selected_type scope (field_part found name) rest
  selected_type scope found (more_of-Selector (select.Index over index) rest) =
      selected_type scope (only_if (is_of over (type_of scope index)) (item_part found over)) rest

  -- there is one argument for each formal, and it fits
  pub arguments_fit : Scope → List Formal → Arguments → Bool
  arguments_fit scope formals (a.Of' _ args) = row_fits scope formals args

  pub row_fits : {n : _} → Scope → List Formal → Row_of-Argument n → Bool
  row_fits scope [] end_of-Argument = true
  row_fits scope (f ∷ fs) end_of-Argument = false
  row_fits scope formals (more_of-Argument first rest) =
      argument_fits scope (first_of formals) first && row_fits scope (rest_of formals) rest

  pub argument_fits : Scope → Option Formal → argument.Argument → Bool
  argument_fits scope formal (argument.Copy place) =
      given_value formal (option_map widened (simple_part (place_type scope place)))
  argument_fits scope formal (argument.CopyAll place) = given_compound formal (place_type scope place)
  argument_fits scope formal (argument.Value body) = given_value formal (type_of scope body)
  argument_fits scope formal (argument.Place place) =
      may_write scope (root_of place) && given_place formal (place_type scope place)

-- Statements

-- a designator of this simple type
abbrev pub is_cell_of : Simple → Option AnyType → Bool
is_cell_of into found = option_map_or (same_simple into) (simple_part found) false

-- a designator whose values are of this simple type, subranges as one
abbrev pub holds_values_of : Simple → Option AnyType → Bool
holds_values_of into found = is_of into (option_map widened (simple_part found))

-- two designators of one compound type
abbrev pub are_alike : Option AnyType → Option AnyType → Bool
are_alike (Some type) (Some other) = is_compound type && same_type type other
are_alike _ _ = false

abbrev pub labels_fit : Scope → Option Simple → List Expr → Bool
labels_fit scope on labels = list_all (λ label. comparable compare.Equal on (type_of scope label)) labels

abbrev pub is_procedure : Exit → Bool
is_procedure ByReturn = true
is_procedure _ = false

-- the value of a `return` is of the result type of a function
abbrev pub returns : Exit → Option Simple → Bool
returns (WithValue type) found = is_of type found
returns _ found = false

unfoldable mutual
  pub stmt_fits : Scope → Stmt → Bool
  stmt_fits scope (s.Block' _ body) = body_fits scope body
  stmt_fits scope (s.Assign to into body) =
      may_write scope (root_of to) && (is_cell_of into (place_type scope to) && is_of into (type_of scope body))
  stmt_fits scope (s.Copy to into from) =
      may_write scope (root_of to)
      && (is_cell_of into (place_type scope to) && holds_values_of into (place_type scope from))
  stmt_fits scope (s.CopyAll to from) =
      may_write scope (root_of to) && are_alike (place_type scope to) (place_type scope from)
  stmt_fits scope (s.Call k args at) =
      not (is_function scope.exit) && option_map_or
      (λ r. not (is_some r.result) && arguments_fit scope r.formals args) (slice_get scope.routines k) false
  stmt_fits scope (s.If' _ arms _ otherwise at) = arms_fit scope arms && body_fits scope otherwise
  stmt_fits scope (s.Switch' on _ cases _ otherwise at) =
      is_some (type_of scope on) && (cases_fit scope (type_of scope on) cases && body_fits scope otherwise)
  stmt_fits scope (s.For' over _ body at) = is_simple_type scope.kinds over && body_fits (binding scope over) body
  stmt_fits scope (s.Clear place type at) =
      may_write scope (root_of place)
      && (is_type scope.kinds type && option_map_or (same_type type) (place_type scope place) false)
  stmt_fits scope (s.Undefine place at) = may_write scope (root_of place) && is_some (place_type scope place)
  stmt_fits scope (s.Error at) = true
  stmt_fits scope (s.Assert test at) = is_of simple.Truth (type_of scope test)
  stmt_fits scope (s.PutText at) = true
  stmt_fits scope (s.Put shown at) = is_some (type_of scope shown)
  stmt_fits scope (s.Leave at) = is_procedure scope.exit
  stmt_fits scope (s.Return body at) = returns scope.exit (type_of scope body)

  pub body_fits : {n : _} → Scope → Row_of-Stmt n → Bool
  body_fits scope end_of-Stmt = true
  body_fits scope (more_of-Stmt first rest) = stmt_fits scope first && body_fits scope rest

  pub arms_fit : {n : _} → Scope → Row_of-Arm n → Bool
  arms_fit scope end_of-Arm = true
  arms_fit scope (more_of-Arm test _ body rest) =
      is_of simple.Truth (type_of scope test) && (body_fits scope body && arms_fit scope rest)

  pub cases_fit : {n : _} → Scope → Option Simple → Row_of-Case n → Bool
  cases_fit scope on end_of-Case = true
  cases_fit scope on (more_of-Case labels _ body rest) =
      labels_fit scope on labels && (body_fits scope body && cases_fit scope on rest)

-- Protocols

abbrev pub are_variables : List Kind → List Variable → Bool
are_variables kinds variables = list_all (λ (v : Variable). is_type kinds v.of) variables

abbrev pub are_parameter_types : List Kind → List Parameter → Bool
are_parameter_types kinds params = list_all (λ (p : Parameter). is_simple_type kinds p.over) params

-- the body of a rule or of a start state, or a formula
abbrev pub top_scope : Typed → List Variable → List Parameter → Scope
top_scope T locals params =
    record {
      kinds = T.kinds;
      globals = T.globals;
      routines = T.routines;
      formals = [];
      locals = locals;
      bound = map
          (λ (p : Parameter). p.over) params;
      exit = AtEnd;
    }

abbrev pub exit_of : Option Simple → Exit
exit_of None = ByReturn
exit_of (Some type) = WithValue type

-- the body of a routine, which may call those before it
abbrev pub routine_scope : Typed → List Routine → Routine → Scope
routine_scope T earlier r =
    record {
      kinds = T.kinds;
      globals = T.globals;
      routines = earlier;
      formals = r.formals;
      locals = r.locals;
      bound = [];
      exit = exit_of r.result;
    }

-- a function has no `var` formals
abbrev pub formal_allowed : Option Simple → Formal → Bool
formal_allowed result f = not (is_some result && f.by_place)

abbrev pub routine_fits : Typed → List Routine → Routine → Bool
routine_fits T earlier r =
    list_all (λ (f : Formal). is_type T.kinds f.of && formal_allowed r.result f) r.formals
    && (option_map_or (is_simple_type T.kinds) r.result true
    && (are_variables T.kinds r.locals && stmt_fits (routine_scope T earlier r) r.body))

abbrev pub routines_fit : Typed → List Routine → List Routine → Bool
routines_fit T earlier [] = true
routines_fit T earlier (r ∷ rs) = routine_fits T earlier r && routines_fit T (earlier ++ r ∷ []) rs

abbrev pub guard_fits : Scope → Option Guard → Bool
guard_fits scope guard = option_map_or (λ (g : Guard). is_of simple.Truth (type_of scope g.test)) guard true

abbrev pub rule_fits : Typed → Rule → Bool
rule_fits T r =
    are_parameter_types T.kinds r.params
    && (are_variables T.kinds r.locals
    && (guard_fits (top_scope T r.locals r.params) r.guard && stmt_fits (top_scope T r.locals r.params) r.body))

abbrev pub start_fits : Typed → Start → Bool
start_fits T a =
    are_parameter_types T.kinds a.params
    && (are_variables T.kinds a.locals && stmt_fits (top_scope T a.locals a.params) a.body)

-- the kinds of a protocol, and then those that a lemma writes itself
abbrev pub with_kinds : Typed → List Kind → Typed
with_kinds T more = record T { kinds = T.kinds ++ more }

-- a formula of the protocol: an invariant, or a lemma with kinds of its own
abbrev pub formula_fits : Typed → TypedFormula → Bool
formula_fits T f =
    are_parameter_types T.kinds f.params && is_of simple.Truth (type_of (top_scope T [] f.params) f.body)

abbrev pub lemma_fits : Typed → TypedFormula → Bool
lemma_fits T f = formula_fits (with_kinds T f.kinds) f

-- a typed protocol is well typed
abbrev pub is_well_typed : Typed → Bool
is_well_typed T =
    are_variables T.kinds T.globals
    && (routines_fit T [] T.routines
    && (list_all (start_fits T) T.starts
    && (list_all (rule_fits T) T.rules && list_all (formula_fits T) T.invariants)))
