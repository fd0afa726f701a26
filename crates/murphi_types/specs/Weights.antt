-- Weights. The weight of an expression, designator or statement as it is written is 1 and the weights of the
-- expressions, designators and statements directly in it; it is counted while these are typed. A designator that is
-- read is an expression and a designator at once, and counts once. A quantifier or `for` over a finite type counts
-- its body once for each value, one over nodes once. A call adds the weight of the routine's body. Weights are this
-- project's own; they bound how large an item is when its quantifiers are written out.
use Rattle.std.specs.Prelude.{ℕ, ◌-◌, ◌^◌, nat_le, ◌-ℤ◌, List, Option, None, Some, if◌then◌else◌}
use Rattle.murphi_ast.specs.declared.token.Span.{Span}
use Rattle.murphi_typed.specs.declared.types.Simple.{Simple}
use Rattle.murphi_typed.specs.declared.types.Simple.TheVariants as simple
use Rattle.murphi_typed.specs.Values.{numbers_within}
use Rattle.murphi_types.specs.declared.fault.Quantity.TheVariants as quantity
use Rattle.murphi_types.specs.declared.fault.Cause.TheVariants as cause
use Rattle.murphi_types.specs.declared.fault.Fault.{Fault}
use Rattle.murphi_types.specs.Faults.{unless}

-- how often the body of a quantifier or of a `for` counts
abbrev pub turns : Simple → ℕ
turns simple.Truth = 2
turns (simple.Range low high) = numbers_within (high -ℤ low)
turns (simple.Listed kind count) = count
turns (simple.Scalarset kind count) = count
turns simple.Node = 1

-- an ill-typed bind counts for nothing: its item has no weight
abbrev pub turns_of : Option Simple → ℕ
turns_of (Some over) = turns over
turns_of None = 0

-- counts stop at the greatest u64
abbrev pub stopped : ℕ → ℕ
stopped count = if nat_le (2 ^ 64) count then 2 ^ 64 - 1 else count

abbrev pub most_weight : ℕ
most_weight = 10000

-- the weight of a well-typed item is limited: E16 at its first token
abbrev pub weight_faults : Span → ℕ → List Fault
weight_faults at weight =
    unless (nat_le weight most_weight) (cause.E16 quantity.Weight (stopped weight) most_weight) at
