-- The worked cases, each by computing it.
use Rattle.std.specs.Prelude.{refl}
use Rattle.murphi_typed.specs.Families.{ways}
use Rattle.murphi_typed.specs.Expressions.{value_of}
use Rattle.murphi_typed.specs.Execution.{run}
use Rattle.murphi_typed.specs.Prefix.{depth_of, stmt_depth, up}
use Rattle.murphi_typed.specs.WellTyped.{has_parts, is_type, stmt_fits, type_of}
use Rattle.typed_laws.specs.WorkedSamples.{MutexIsAsWorked, GermanIsAsWorked}

pub mutex : MutexIsAsWorked
unfolding value_of run ways depth_of stmt_depth up has_parts is_type stmt_fits type_of
mutex = (refl, refl, refl, refl, refl, refl, refl, refl, refl, refl, refl, refl, refl, refl, refl, refl)

pub german : GermanIsAsWorked
unfolding value_of run ways depth_of stmt_depth up has_parts is_type stmt_fits type_of
german = (refl, refl, refl, refl, refl, refl, refl, refl, refl, refl)
