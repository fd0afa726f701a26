-- The worked cases, each by computing it.
use Rattle.std.specs.Prelude.{refl}
use Rattle.murphi_typed.specs.Expressions.{value_of}
use Rattle.murphi_typed.specs.WellTyped.{has_parts}
use Rattle.murphi_types.specs.Places.{place_of, type_place_of}
use Rattle.murphi_types.specs.Constants.{is_constant}
use Rattle.murphi_types.specs.Typing.{found}
use Rattle.murphi_types.specs.Repeats.{enum_names, field_repeats, type_repeats}
use Rattle.murphi_types.specs.Uses.{uses_in}
use Rattle.murphi_types.specs.Statements.{stmt_found}
use Rattle.murphi_types.specs.Leaves.{leaves}
use Rattle.murphi_types.specs.Items.{item_found}
use Rattle.murphi_types.specs.Designators.{index_type, item_chosen}
use Rattle.murphi_types.specs.Written.{in_stmt, in_item, local_repeats}
use Rattle.murphi_types.specs.WorkedProtocol.{ProtocolIsAsWorked}
use Rattle.murphi_typed.specs.declared.types.AnyType.TheBlock.{shape-the_row-AnyType-1, hidden-the_row-AnyType-1, hidden-the_row-Field-0}
use Rattle.murphi_typed.specs.declared.expr.Argument.TheBlock.{shape-the_row-Expr-2, hidden-the_row-Expr-2, hidden-the_row-Link-3}
use Rattle.murphi_typed.specs.declared.stmt.Stmt.TheBlock.{hidden-the_row-Stmt-0}
use denote.Hole.Carrier.{hidden}
use Rattle.murphi_typed.specs.Prefix.{depth_of, stmt_depth, up}
use Rattle.murphi_typed.specs.WellTyped.{is_type, stmt_fits, type_of}
use Rattle.murphi_types.specs.TextUses.{stmt_uses, item_uses}
use Rattle.murphi_types.specs.WorkedTexts.{TextsAreAsWorked, LimitsAreAsWorked, UsesAreAsWorked, RoutinesAreAsWorked, LemmasAreAsWorked}
use Rattle.murphi_types.specs.WorkedStatements.{WeightsAreAsWorked, AssignmentsAreAsWorked, BodiesAreAsWorked}
use Rattle.murphi_types.specs.WorkedDeclarations.{DeclarationsAreAsWorked, LocalsAreAsWorked, RepeatsAreAsWorked, ArgumentsAreAsWorked}
use Rattle.murphi_types.specs.Worked.{ExpressionsAreAsWorked, DesignatorsAreAsWorked, CallsAreAsWorked, QuantifiersAreAsWorked, ConstantsAreAsWorked, TypesAreAsWorked}

pub expressions : ExpressionsAreAsWorked
unfolding found index_type item_chosen place_of
expressions = (refl, refl, refl, refl, refl, refl, refl, refl, refl, refl, refl, refl, refl, refl)

pub designators : DesignatorsAreAsWorked
unfolding found index_type item_chosen place_of
designators = (refl, refl, refl, refl, refl, refl, refl, refl, refl, refl, refl, refl, refl, refl, refl)

pub calls : CallsAreAsWorked
unfolding found index_type item_chosen place_of has_parts
calls = (refl, refl, refl, refl, refl, refl, refl, refl, refl, refl)

pub quantifiers : QuantifiersAreAsWorked
unfolding found index_type item_chosen place_of type_place_of is_constant value_of
quantifiers = (refl, refl, refl, refl)

pub constants : ConstantsAreAsWorked
unfolding is_constant value_of
constants = (refl, refl, refl, refl, refl, refl, refl, refl, refl)

pub types : TypesAreAsWorked
unfolding found index_type item_chosen place_of type_place_of is_constant value_of
types = (refl, refl, refl, refl, refl, refl, refl, refl, refl, refl, refl, refl)

pub declarations : DeclarationsAreAsWorked
unfolding found index_type item_chosen place_of type_place_of is_constant value_of
declarations = (refl, refl, refl, refl, refl, refl, refl, refl, refl)

pub locals : LocalsAreAsWorked
unfolding found index_type item_chosen place_of type_place_of is_constant value_of
locals = (refl, refl)

pub repeats : RepeatsAreAsWorked
unfolding enum_names type_repeats uses_in
repeats = (refl, refl, refl)

pub arguments : ArgumentsAreAsWorked
unfolding found index_type item_chosen place_of has_parts
arguments = (refl, refl, refl, refl, refl, refl)

pub weights : WeightsAreAsWorked
unfolding found index_type item_chosen place_of type_place_of is_constant value_of
weights = (refl, refl, refl, refl, refl, refl, refl)

pub assignments : AssignmentsAreAsWorked
unfolding found index_type item_chosen place_of type_place_of is_constant value_of has_parts stmt_found
assignments = (refl, refl, refl, refl, refl, refl, refl, refl, refl, refl, refl, refl, refl, refl)

pub bodies : BodiesAreAsWorked
unfolding found index_type item_chosen place_of type_place_of is_constant value_of has_parts stmt_found
bodies = (refl, refl, refl, refl, refl, refl, refl, refl, refl, refl, refl, refl, refl, refl, refl, refl)

pub texts : TextsAreAsWorked
unfolding found index_type item_chosen place_of type_place_of is_constant value_of has_parts stmt_found item_found leaves enum_names field_repeats in_stmt in_item local_repeats
texts = (refl, refl, refl, refl, refl, refl, refl, refl, refl, refl, refl)

pub limits : LimitsAreAsWorked
unfolding found index_type item_chosen place_of type_place_of is_constant value_of has_parts stmt_found item_found leaves enum_names field_repeats in_stmt in_item local_repeats
limits = (refl, refl, refl, refl, refl, refl, refl)

pub uses : UsesAreAsWorked
unfolding uses_in stmt_uses item_uses
uses = (refl, refl, refl, refl, refl)

pub routines : RoutinesAreAsWorked
unfolding found index_type item_chosen place_of type_place_of is_constant value_of has_parts stmt_found item_found leaves enum_names field_repeats in_stmt in_item local_repeats
routines = (refl, refl, refl, refl, refl)

pub lemmas : LemmasAreAsWorked
unfolding found index_type item_chosen place_of type_place_of is_constant value_of has_parts stmt_found item_found leaves enum_names field_repeats in_stmt in_item local_repeats
lemmas = (refl, refl, refl, refl, refl, refl, refl, refl)

pub protocol : ProtocolIsAsWorked
unfolding found index_type item_chosen place_of type_place_of is_constant value_of has_parts stmt_found item_found leaves enum_names field_repeats in_stmt in_item local_repeats uses_in stmt_uses item_uses depth_of stmt_depth up is_type stmt_fits type_of shape-the_row-AnyType-1 hidden-the_row-AnyType-1 hidden-the_row-Field-0 shape-the_row-Expr-2 hidden-the_row-Expr-2 hidden-the_row-Link-3 hidden-the_row-Stmt-0 hidden
protocol = (refl, refl, refl, refl, refl, refl, refl, refl, refl)
