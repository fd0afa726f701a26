-- Places, in terms of the parts that code reads.
use Rattle.std.proofs.Common.{◌≡◌, ℕ, ◌+◌, suc, Bool, true, false, [], ◌∷◌, Option, None, Some, refl, ap, ◌∙◌, arith}
use Rattle.std.specs.Prelude.{nat_eq, option_map, if◌then◌else◌}
use Rattle.rule_inline.specs.Tables.{Marks, axis_in}
use Rattle.rule_parts.specs.Steps.{axis_from}
use Rattle.rule_parts.proofs.ListLemmas.{mapped_joined, after_after, nothing_after}

moved : (passed : ℕ) (o : Option ℕ) → option_map (λ k. (passed + 1) + k) o ≡ option_map (λ k. passed + k) (option_map suc o)
moved passed None = refl
moved passed (Some k) = let e : (passed + 1) + k ≡ passed + suc k = omega arith in ap Some e

axis_after : (passed variable : ℕ) (marks : Marks) → axis_from passed variable marks ≡ option_map (λ k. passed + k) (axis_in variable marks)
axis_after passed variable [] = refl
axis_after passed variable (None ∷ marks) = axis_after (passed + 1) variable marks ∙ moved passed (axis_in variable marks)
axis_after passed variable (Some k ∷ marks) = go (nat_eq k variable) (axis_after (passed + 1) variable marks)
  where
    go : (b : Bool) → axis_from (passed + 1) variable marks ≡ option_map (λ k. (passed + 1) + k) (axis_in variable marks)
        → (if b then Some passed else axis_from (passed + 1) variable marks) ≡ option_map (λ k. passed + k) (if b then Some 0 else option_map suc (axis_in variable marks))
    go true e = let z : passed ≡ passed + 0 = omega arith in ap Some z
    go false e = e ∙ moved passed (axis_in variable marks)

unmoved : (o : Option ℕ) → option_map (λ k. 0 + k) o ≡ o
unmoved None = refl
unmoved (Some k) = let e : 0 + k ≡ k = omega arith in ap Some e

pub axis_first : (variable : ℕ) (marks : Marks) → axis_from 0 variable marks ≡ axis_in variable marks
axis_first variable marks = axis_after 0 variable marks ∙ unmoved (axis_in variable marks)

pub ruleset places = (mapped_joined, after_after, nothing_after, axis_first)
