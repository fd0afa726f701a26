-- The worked cases, each by computing it.
use Rattle.std.specs.Prelude.{refl}
use Rattle.murphi_typed.specs.Families.{leaf_at, ways}
use Rattle.murphi_typed.specs.Expressions.{value_of}
use Rattle.murphi_typed.specs.Execution.{run}
use Rattle.murphi_typed.specs.Prefix.{depth_of, stmt_depth, up}
use Rattle.murphi_typed.specs.WellTyped.{has_parts, is_type, stmt_fits, type_of}
use Rattle.murphi_typed.specs.Worked.{ExpressionsAreAsWorked, QuantifiersAreAsWorked, AssignmentsAreAsWorked}
use Rattle.murphi_typed.specs.WorkedBodies.{ChoicesAreAsWorked, CallsAreAsWorked}
use Rattle.murphi_typed.specs.WorkedSteps.{StepsAreAsWorked, CellsAreAsWorked, PrefixesAreAsWorked, TypesAreAsWorked}

pub expressions : ExpressionsAreAsWorked
unfolding value_of
expressions = (refl, refl, refl, refl, refl, refl, refl, refl, refl, refl, refl, refl, refl, refl, refl, refl, refl, refl)

pub quantifiers : QuantifiersAreAsWorked
unfolding value_of
quantifiers = (refl, refl, refl, refl, refl, refl, refl, refl, refl, refl)

pub assignments : AssignmentsAreAsWorked
unfolding value_of run leaf_at
assignments = (refl, refl, refl, refl, refl, refl, refl, refl, refl, refl, refl, refl, refl, refl, refl, refl, refl, refl, refl, refl, refl, refl)

pub choices : ChoicesAreAsWorked
unfolding value_of run
choices = (refl, refl, refl, refl, refl, refl, refl, refl, refl, refl, refl, refl)

pub calls : CallsAreAsWorked
unfolding value_of run
calls = (refl, refl, refl, refl, refl, refl, refl, refl, refl, refl, refl, refl, refl, refl)

pub steps : StepsAreAsWorked
unfolding value_of run ways
steps = (refl, refl, refl, refl, refl, refl, refl, refl, refl)

pub cells : CellsAreAsWorked
unfolding ways
cells = (refl, refl, refl, refl, refl, refl, refl, refl, refl, refl, refl, refl, refl)

pub prefixes : PrefixesAreAsWorked
unfolding depth_of stmt_depth up
prefixes = (refl, refl, refl, refl, refl, refl, refl, refl, refl, refl, refl, refl, refl, refl, refl, refl, refl, refl, refl, refl, refl, refl)

pub types : TypesAreAsWorked
unfolding is_type has_parts type_of stmt_fits
types = (refl, refl, refl, refl)
