-- Enums of few values and of too many.
use Rattle.std.proofs.Common.{◌≡◌, ℕ, Bool, true, false, cond, List, Option, None, Some, refl, ap, sym, ◌∙◌}
use Rattle.std.specs.Prelude.{nat_le, length}
use Rattle.murphi_ast.specs.declared.token.Span.{Span}
use Rattle.murphi_ast.specs.declared.expr.Named.{Named}
use Rattle.murphi_typed.specs.declared.types.Simple.TheVariants as simple
use Rattle.murphi_typed.specs.declared.types.AnyType as t
use Rattle.murphi_types.specs.declared.scope.Known.{Known}
use Rattle.murphi_types.specs.Types.{most_values, enum_found, with_members}
use Rattle.type_parts.specs.declared.judged.JudgedType.{JudgedType}
use Rattle.type_forms.specs.Writing.{judged_type, small_count, too_many, with_enum}
use Rattle.murphi_types.specs.declared.scope.Meaning.{Meaning}

abbrev pub made_as : ℕ → ℕ → JudgedType
made_as number few = record { of = Some (t.Simple (simple.Listed number few)); fault = None }

-- what is made of an enum whose values are few, or too many
abbrev pub made_of : Span → ℕ → Known → Option ℕ → JudgedType
made_of at count k (Some few) = made_as (length k.kinds) few
made_of at count k None = too_many at count

abbrev pub known_of : List Named → Known → Option ℕ → Known
known_of names k (Some few) = with_enum true (length k.kinds) few names k
known_of names k None = with_enum false (length k.kinds) 0 names k

pub enum-type : (at : Span) (names : List Named) (k : Known) → judged_type (enum_found at names k) ≡ made_of at (length names) k (small_count (length names))
enum-type at names k = go (nat_le (length names) most_values) refl
  where
    go : (b : Bool) → nat_le (length names) most_values ≡ b → judged_type (enum_found at names k) ≡ made_of at (length names) k (cond b (Some (length names)) None)
    go true h = simp h
    go false h = simp h

pub enum-known : (at : Span) (names : List Named) (k : Known) → with_members names k ≡ known_of names k (small_count (length names))
enum-known at names k = go (nat_le (length names) most_values) refl
  where
    go : (b : Bool) → nat_le (length names) most_values ≡ b → with_members names k ≡ known_of names k (cond b (Some (length names)) None)
    go true h = simp h
    go false h = simp h

-- what code makes of few names, and of too many
pub few-type : (at : Span) (names : List Named) (k : Known) (number few count : ℕ) → number ≡ length k.kinds → count ≡ length names → Some few ≡ small_count count → made_as number few ≡ judged_type (enum_found at names k)
few-type at names k number few count is n s =
    ap (λ j. made_as j few) is ∙ ap (made_of at (length names) k) (s ∙ ap small_count n) ∙ sym (enum-type at names k)

pub few-known : (at : Span) (names : List Named) (k k' : Known) (number few count : ℕ) → number ≡ length k.kinds → count ≡ length names → Some few ≡ small_count count → k' ≡ with_enum true number few names k → k' ≡ with_members names k
few-known at names k k' number few count is n s h =
    h ∙ ap (λ j. with_enum true j few names k) is ∙ ap (known_of names k) (s ∙ ap small_count n) ∙ sym (enum-known at names k)

pub many-type : (at : Span) (names : List Named) (k : Known) (count : ℕ) (j : JudgedType) → count ≡ length names → None ≡ small_count count → j ≡ too_many at count → j ≡ judged_type (enum_found at names k)
many-type at names k count j n s h =
    h ∙ ap (too_many at) n ∙ ap (made_of at (length names) k) (s ∙ ap small_count n) ∙ sym (enum-type at names k)

pub many-known : (at : Span) (names : List Named) (k k' : Known) (number count : ℕ) → number ≡ length k.kinds → count ≡ length names → None ≡ small_count count → k' ≡ with_enum false number 0 names k → k' ≡ with_members names k
many-known at names k k' number count is n s h =
    h ∙ ap (λ j. with_enum false j 0 names k) is ∙ ap (known_of names k) (s ∙ ap small_count n) ∙ sym (enum-known at names k)
