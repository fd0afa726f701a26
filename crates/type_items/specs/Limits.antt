-- Limits, as code counts them: instances and weights stop at the greatest u64, which is past each limit.
use Rattle.std.specs.Prelude.{ℕ, Bool, true, false, nat_le, List, Option, None, Some}
use Rattle.murphi_ast.specs.declared.token.Span.{Span}
use Rattle.murphi_typed.specs.declared.protocol.Parameter.{Parameter}
use Rattle.murphi_typed.specs.Prefix.{node_parameters}
use Rattle.murphi_types.specs.declared.fault.Quantity.TheVariants as quantity
use Rattle.murphi_types.specs.declared.fault.Cause.TheVariants as cause
use Rattle.murphi_types.specs.declared.fault.Fault.{Fault}
use Rattle.murphi_types.specs.Faults.{sooner}
use Rattle.murphi_types.specs.Weights.{most_weight}
use Rattle.murphi_types.specs.Items.{most_parameters, most_instances}
use Rattle.type_parts.specs.Judging.{own}

-- too many node parameters, where some list of names passed the limit
abbrev pub past_fault : Option Span → List Parameter → Option Fault
past_fault (Some at) params =
    Some (record { cause = cause.E16 quantity.Parameters (node_parameters params) most_parameters; at = at })
past_fault None params = None

abbrev pub instance_fault : Span → ℕ → Option Fault
instance_fault at count =
    own (nat_le count most_instances) (cause.E16 quantity.Instances count most_instances) at

abbrev pub weight_fault : Span → ℕ → Option Fault
weight_fault at weight = own (nat_le weight most_weight) (cause.E16 quantity.Weight weight most_weight) at

-- the limits that a well-typed item passes: instances first, then weight, then one more
abbrev pub limit_of : Bool → Span → ℕ → ℕ → Option Fault → Option Fault
limit_of true at count weight more = sooner (instance_fault at count) (sooner (weight_fault at weight) more)
limit_of false at count weight more = None
