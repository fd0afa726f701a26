-- Limits: the first of those that the definition lists.
use Rattle.std.proofs.Common.{◌≡◌, ℕ, suc, ◌+◌, ◌*◌, ◌<◌, Bool, true, false, List, [], ◌∷◌, ◌++◌, length, drop, get_or, Option, None, Some, refl, ap, sym, ◌∙◌, arith, add-one, drop-cons}
use Rattle.std.specs.Prelude.{nat_le, is_none}
use Rattle.std.specs.Option.{option_map_or}
use Rattle.std.proofs.Math.Nat.{mul_comm, mul_assoc}
use Rattle.std.proofs.lemmas.Bool.Decides.{nat_tests}
use Rattle.murphi_ast.specs.declared.token.Span.{Span}
use Rattle.murphi_typed.specs.declared.protocol.Parameter.{Parameter}
use Rattle.murphi_typed.specs.Prefix.{node_parameters}
use Rattle.murphi_types.specs.declared.fault.Quantity.TheVariants as quantity
use Rattle.murphi_types.specs.declared.fault.Cause.TheVariants as cause
use Rattle.murphi_types.specs.declared.fault.Fault.{Fault}
use Rattle.murphi_types.specs.Faults.{lone, sooner, first_fault, is_clear}
use Rattle.murphi_types.specs.Weights.{turns, stopped, most_weight, weight_faults}
use Rattle.murphi_types.specs.Items.{most_parameters, instances, most_instances, instance_faults, limits_of}
use Rattle.type_parts.specs.Judging.{own}
use Rattle.type_parts.proofs.FaultLemmas.{first-append, first-unless, first-clear, sooner-none}
use Rattle.type_parts.proofs.WeightLemmas.{stopped-stopped}
use Rattle.type_expressions.proofs.PartLemmas.{stopped-times}
use Rattle.type_items.specs.Limits.{past_fault, instance_fault, weight_fault, limit_of}

-- Instances

pub times-stopped : (m n : ℕ) → stopped (stopped m * n) ≡ stopped (m * n)
times-stopped m n = ap stopped (mul_comm (stopped m) n) ∙ stopped-times n m ∙ ap stopped (mul_comm n m)

-- one parameter more is counted
pub instances-step : (count t rest : ℕ) → stopped (stopped (count * t) * rest) ≡ stopped (count * (t * rest))
instances-step count t rest = times-stopped (count * t) rest ∙ ap stopped (mul_assoc count t rest)

drop_more : {A : Type 0} (xs : List A) (i : ℕ) (x : A) → i < length xs → x ≡ get_or xs i x → drop i xs ≡ x ∷ drop (i + 1) xs
drop_more xs i x lt is = drop-cons xs i x lt ∙ ap (λ y. y ∷ drop (suc i) xs) (sym is) ∙ ap (λ j. x ∷ drop j xs) (sym (add-one i))

pub turn-counts : (params : List Parameter) (i : ℕ) (one : Parameter) (count t more whole : ℕ) → i < length params → one ≡ get_or params i one → t ≡ turns one.over → more ≡ stopped (count * t) →
    stopped (count * instances (drop i params)) ≡ whole → stopped (more * instances (drop (i + 1) params)) ≡ whole
turn-counts params i one count t more whole lt is turned counted before =
    ap (λ m. stopped (m * instances (drop (i + 1) params))) (counted ∙ ap (λ x. stopped (count * x)) turned)
    ∙ instances-step count (turns one.over) (instances (drop (i + 1) params))
    ∙ ap (λ ps. stopped (count * instances ps)) (sym (drop_more params i one lt is))
    ∙ before

pub turn-stops : (more n : ℕ) → more ≡ stopped n → stopped more ≡ more
turn-stops more n is = ap stopped is ∙ stopped-stopped n ∙ sym is

-- Faults

pub past-is : (past : Option Span) (params : List Parameter) →
    first_fault (option_map_or (λ at. lone (cause.E16 quantity.Parameters (node_parameters params) most_parameters) at) past []) ≡ past_fault past params
past-is None params = refl
past-is (Some at) params = refl

few-instances : (n : ℕ) → nat_le (stopped n) most_instances ≡ nat_le n most_instances
few-instances n = grind (arith, nat_tests)

little-weight : (n : ℕ) → nat_le (stopped n) most_weight ≡ nat_le n most_weight
little-weight n = grind (arith, nat_tests)

instance-is : (at : Span) (n : ℕ) → first_fault (instance_faults at n) ≡ instance_fault at (stopped n)
instance-is at n =
    first-unless (nat_le n most_instances) (cause.E16 quantity.Instances (stopped n) most_instances) at
    ∙ ap (λ b. own b (cause.E16 quantity.Instances (stopped n) most_instances) at) (sym (few-instances n))

weight-is : (at : Span) (n : ℕ) → first_fault (weight_faults at n) ≡ weight_fault at (stopped n)
weight-is at n =
    first-unless (nat_le n most_weight) (cause.E16 quantity.Weight (stopped n) most_weight) at
    ∙ ap (λ b. own b (cause.E16 quantity.Weight (stopped n) most_weight) at) (sym (little-weight n))

pub limits-are : (typed : Bool) (at : Span) (n w : ℕ) (more : List Fault) →
    first_fault (limits_of typed (instance_faults at n ++ (weight_faults at w ++ more))) ≡ limit_of typed at (stopped n) (stopped w) (first_fault more)
limits-are false at n w more = refl
limits-are true at n w more =
    first-append (instance_faults at n) (weight_faults at w ++ more)
    ∙ ap (sooner (first_fault (instance_faults at n))) (first-append (weight_faults at w) more)
    ∙ ap (λ o. sooner o (sooner (first_fault (weight_faults at w)) (first_fault more))) (instance-is at n)
    ∙ ap (λ o. sooner (instance_fault at (stopped n)) (sooner o (first_fault more))) (weight-is at w)

-- of an item whose parts have these faults
pub part-limits-are : (faults : List Fault) (at : Span) (n w : ℕ) (more : List Fault) →
    first_fault (limits_of (is_clear faults) (instance_faults at n ++ (weight_faults at w ++ more))) ≡ limit_of (is_none (first_fault faults)) at (stopped n) (stopped w) (first_fault more)
part-limits-are faults at n w more =
    limits-are (is_clear faults) at n w more
    ∙ ap (λ b. limit_of b at (stopped n) (stopped w) (first_fault more)) (sym (first-clear faults))

-- of an invariant
pub claim-limits-are : (typed : Bool) (at : Span) (n w : ℕ) →
    first_fault (limits_of typed (instance_faults at n ++ weight_faults at w)) ≡ limit_of typed at (stopped n) (stopped w) None
claim-limits-are false at n w = refl
claim-limits-are true at n w =
    first-append (instance_faults at n) (weight_faults at w)
    ∙ ap (λ o. sooner o (first_fault (weight_faults at w))) (instance-is at n)
    ∙ ap (sooner (instance_fault at (stopped n))) (weight-is at w ∙ sym (sooner-none (weight_fault at (stopped w))))

pub ruleset limits = (instances-step, stopped-stopped)
