-- What code gives of declarations: what they leave, with the first of their faults, the first of their limits, and
-- the number of leaves so far, which stops at the greatest u64.
use Rattle.std.specs.Prelude.{ℕ, ◌+◌, Bool, true, false, nat_le, List, [], ◌∷◌, ◌++◌, length, Option, None, Some}
use Rattle.std.specs.Str.{bytes_eq}
use Rattle.murphi_ast.specs.declared.expr.Named.{Named}
use Rattle.murphi_ast.specs.declared.expr.Expr.{Expr}
use Rattle.murphi_ast.specs.declared.expr.TypeExpr.{TypeExpr}
use Rattle.murphi_ast.specs.declared.decl.Decl as decl
use Rattle.murphi_ast.specs.declared.decl.Decl.{Decl}
use Rattle.murphi_typed.specs.Families.{Name}
use Rattle.murphi_typed.specs.declared.types.AnyType.{AnyType}
use Rattle.murphi_typed.specs.declared.expr.Root.{Root}
use Rattle.murphi_typed.specs.declared.expr.Root.TheVariants as root
use Rattle.murphi_typed.specs.declared.protocol.Variable.{Variable}
use Rattle.murphi_types.specs.declared.fault.Quantity.TheVariants as quantity
use Rattle.murphi_types.specs.declared.fault.Cause.TheVariants as cause
use Rattle.murphi_types.specs.declared.fault.Fault.{Fault}
use Rattle.murphi_types.specs.declared.scope.Meaning.{Meaning}
use Rattle.murphi_types.specs.declared.scope.Meaning.TheVariants as meaning
use Rattle.murphi_types.specs.declared.scope.Known.{Known}
use Rattle.murphi_types.specs.declared.scope.Scope.{Scope}
use Rattle.murphi_types.specs.Faults.{sooner, first_fault}
use Rattle.murphi_types.specs.Places.{place_of}
use Rattle.murphi_types.specs.Weights.{stopped}
use Rattle.murphi_types.specs.Leaves.{leaves, leaves_of, most_leaves}
use Rattle.murphi_types.specs.Scopes.{entry, with_name}
use Rattle.murphi_types.specs.Constants.{is_constant}
use Rattle.murphi_types.specs.Types.{Naming, Unnamed, number_found}
use Rattle.murphi_types.specs.Typing.{found, type_found}
use Rattle.murphi_types.specs.Declarations.{Declared, constant_meaning, type_meaning, naming_of, counted}
use Rattle.type_parts.specs.declared.context.Context.{Context}
use Rattle.type_parts.specs.declared.judged.JudgedNumber.{JudgedNumber}
use Rattle.type_parts.specs.declared.judged.JudgedType.{JudgedType}
use Rattle.type_parts.specs.Contexts.{moved, in_scope}
use Rattle.type_parts.specs.Judging.{own}
use Rattle.type_expressions.specs.PartsGiven.{number_part, type_part}
use Rattle.type_declarations.specs.declared.state.Declaring.{Declaring}

-- what declarations leave, as code has it
unfoldable pub declaring : Bool → Declared → Declaring
declaring globally d =
    record {
      context = record { scope = d.scope; known = d.known };
      locals = d.locals;
      leaves = stopped (leaves_of (counted globally d));
      fault = first_fault d.faults;
      limit = first_fault d.limits;
    }

-- one more name, for the whole text or in the innermost scope
abbrev pub named : Bool → Name → Meaning → Declaring → Declaring
named true name what p = record p { context = moved p.context (with_name p.context.known name what) }
named false name what p =
    record p {
      context = in_scope p.context (record p.context.scope { inner = p.context.scope.inner ++ entry name what ∷ [] });
    }

-- what a part that is typed leaves
abbrev pub advanced : Known → Option Fault → Declaring → Declaring
advanced k fault p = record p { context = moved p.context k; fault = sooner p.fault fault }

abbrev pub constant_named : Bool → Name → JudgedNumber → Known → Declaring → Declaring
constant_named globally name j k p = named globally name (constant_meaning j.number) (advanced k j.fault p)

abbrev pub constant_with : Bool → Name → Expr → Declaring → Declaring
constant_with globally name e p =
    constant_named globally name
    (number_part (number_found (is_constant p.context.scope p.context.known e) (place_of e)
    (found p.context.scope p.context.known e)))
    (found p.context.scope p.context.known e).known p

abbrev pub type_named : Bool → Name → JudgedType → Known → Declaring → Declaring
type_named globally name j k p = named globally name (type_meaning j.of) (advanced k j.fault p)

abbrev pub type_with : Bool → Name → TypeExpr → Declaring → Declaring
type_with globally name t p =
    type_named globally name
    (type_part (type_found p.context.scope p.context.known (naming_of globally p.context.scope.node name) t))
    (type_found p.context.scope p.context.known (naming_of globally p.context.scope.node name) t).known p

-- Variables

abbrev pub next_root : Bool → Declaring → Root
next_root true p = root.Global (length p.context.known.globals)
next_root false p = root.Local (length p.locals)

abbrev pub with_variable : Bool → Variable → Declaring → Declaring
with_variable true v p =
    record p {
      context = moved p.context (record p.context.known { globals = p.context.known.globals ++ v ∷ [] });
      leaves = stopped (p.leaves + leaves v.of);
    }
with_variable false v p = record p { locals = p.locals ++ v ∷ []; leaves = stopped (p.leaves + leaves v.of) }

abbrev pub variable_with : Bool → Name → Option AnyType → Declaring → Declaring
variable_with globally name (Some type) p =
    named globally name (meaning.Variable (next_root globally p) type)
    (with_variable globally (record { name = name; of = type }) p)
variable_with globally name None p = named globally name meaning.Refused p

abbrev pub variables_with : Bool → List Named → Option AnyType → Declaring → Declaring
variables_with globally [] type p = p
variables_with globally (n ∷ ns) type p =
    variables_with globally ns type (variable_with globally n.name type p)

abbrev pub limit_of : List Named → ℕ → Option Fault
limit_of [] count = None
limit_of (n ∷ ns) count =
    own (nat_le count most_leaves) (cause.E16 quantity.Leaves count most_leaves) n.at

abbrev pub with_limit : List Named → Declaring → Declaring
with_limit names p = record p { limit = sooner p.limit (limit_of names p.leaves) }

abbrev pub all_named : Bool → List Named → JudgedType → Known → Declaring → Declaring
all_named globally names j k p = with_limit names (variables_with globally names j.of (advanced k j.fault p))

abbrev pub names_with : Bool → List Named → TypeExpr → Declaring → Declaring
names_with globally names t p =
    all_named globally names (type_part (type_found p.context.scope p.context.known Unnamed t))
    (type_found p.context.scope p.context.known Unnamed t).known p

-- one declaration of a constant, a type or variables
unfoldable pub declared_with : Bool → Decl → Declaring → Declaring
declared_with globally (decl.Constant name body) p = constant_with globally name.name body p
declared_with globally (decl.TypeName name body) p = type_with globally name.name body p
declared_with globally (decl.Variables names body) p = names_with globally names body p
declared_with globally _ p = p

-- whether a name is that of the node type
abbrev pub is_node : Option Name → Name → Bool
is_node (Some node) name = bytes_eq node name
is_node None name = false
