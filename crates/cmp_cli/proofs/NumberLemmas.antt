-- Values that are numbers in decimal.
use Rattle.std.proofs.Common.{◌≡◌, ◌≢◌, ℕ, ◌^◌, ◌<◌, ◌≤◌, Bool, true, false, List, Result, Ok, Err, refl, sym, ◌∙◌, arith, subst}
use Rattle.std.specs.Bool.{Decides}
use Rattle.std.specs.Fmt.{decimal}
use Rattle.std.specs.Str.Parse.{ParsesUnsigned}
use Rattle.std.proofs.lemmas.Fmt.{parse-decimal}
use Rattle.cmp_cli.specs.declared.table.Takes.TheVariants as takes
use Rattle.cmp_cli.specs.Words.{IsTaken}

-- a number in decimal is read as itself
is_read : {E : Type 0} (n greatest : ℕ) (value : List ℕ) (r : Result ℕ E) → greatest < 2 ^ 32 → ParsesUnsigned 32 10 value r →
    value ≡ decimal n → n ≤ greatest → r ≡ Ok n
is_read n greatest value r fits parses is high =
    let small : n < 2 ^ 32 = omega arith in
    parse-decimal 32 n value r small (omega arith) is parses

-- what is read as no number is none
pub not_read : {E : Type 0} (least greatest : ℕ) (value : List ℕ) (r : Result ℕ E) (e : E) → greatest < 2 ^ 32 → ParsesUnsigned 32 10 value r →
    r ≡ Err e → Decides false (IsTaken (takes.Number least greatest) value)
not_read least greatest value r e fits parses err =
    (λ f. cc, λ taken. let ok : r ≡ Ok taken.0 = is_read taken.0 greatest value r fits parses taken.1 taken.3 in cc)

-- a number outside the range is not taken
pub not_in_range : {E : Type 0} (least greatest number : ℕ) (value : List ℕ) (r : Result ℕ E) → greatest < 2 ^ 32 → ParsesUnsigned 32 10 value r →
    r ≡ Ok number → ((least ≤ number) → (number ≤ greatest) → ⊥) → Decides false (IsTaken (takes.Number least greatest) value)
not_in_range least greatest number value r fits parses ok out = (
  λ f. cc,
  λ taken.
      let same : r ≡ Ok taken.0 = is_read taken.0 greatest value r fits parses taken.1 taken.3 in
      let is : taken.0 ≡ number = cc in
      absurd (out (subst (λ n. least ≤ n) is taken.2) (subst (λ n. n ≤ greatest) is taken.3)),
)

-- one within it is taken where the value is written so
pub in_range : {E : Type 0} (least greatest number : ℕ) (value : List ℕ) (r : Result ℕ E) (b : Bool) → greatest < 2 ^ 32 → ParsesUnsigned 32 10 value r →
    r ≡ Ok number → least ≤ number → number ≤ greatest → Decides b (value ≡ decimal number) → Decides b (IsTaken (takes.Number least greatest) value)
in_range least greatest number value r b fits parses ok low high written = (
  λ t. (number, written.0 t, low, high),
  λ taken.
      let same : r ≡ Ok taken.0 = is_read taken.0 greatest value r fits parses taken.1 taken.3 in
      let is : taken.0 ≡ number = cc in
      written.1 (subst (λ n. value ≡ decimal n) is taken.1),
)

pub ruleset numbers = (not_read, not_in_range, in_range)
