-- What loops over parts work out.
use Rattle.std.proofs.Common.{◌≡◌, ℕ, zero, suc, ◌+◌, ◌-◌, ◌<◌, ◌≤◌, true, false, ◌&&◌, List, [], ◌∷◌, length, drop, Option, None, Some, refl, ap, ◌∙◌, subst, arith}
use Rattle.std.specs.Prelude.{slice_get}
use Rattle.scalarset_rules.specs.Accesses.{Binder, Part}
use Rattle.scalarset_rules.specs.Rules.{same_part, is_prefix, is_it, has_at, one_later}

-- a place counted from a later one
abbrev pub later : ℕ → Option ℕ → Option ℕ
later passed None = None
later passed (Some k) = Some (passed + k)

pub later_one : (passed : ℕ) (o : Option ℕ) → later passed (one_later o) ≡ later (passed + 1) o
later_one passed None = refl
later_one passed (Some k) = ap Some (omega arith)

pub later_none : (o : Option ℕ) → later 0 o ≡ o
later_none None = refl
later_none (Some k) = ap Some (omega arith)

pub later_here : (passed : ℕ) → later passed (Some 0) ≡ Some passed
later_here passed = ap Some (omega arith)

pub has_here : (v : Binder) (k : ℕ) (m : Option Binder) (ms : List (Option Binder)) → k ≡ 0 → has_at v k (m ∷ ms) ≡ is_it v m
has_here v zero m ms e = refl
has_here v (suc k) m ms e = absurd (omega (arith, e))

pub has_later : (v : Binder) (k : ℕ) (m : Option Binder) (ms : List (Option Binder)) → 0 < k → has_at v k (m ∷ ms) ≡ has_at v (k - 1) ms
has_later v zero m ms e = absurd (omega (arith, e))
has_later v (suc k) m ms e = let h : k ≡ suc k - 1 = omega arith in ap (λ j. has_at v j ms) h

pub prefix_at : (front all : List Part) (at : ℕ) (p q : Part) → slice_get front at ≡ Some p → slice_get all at ≡ Some q → is_prefix (drop at front) (drop at all) ≡ (same_part p q && is_prefix (drop (at + 1) front) (drop (at + 1) all))
prefix_at [] all at p q e f = cc
prefix_at (x ∷ front) [] at p q e f = cc
prefix_at (x ∷ front) (y ∷ all) zero p q e f =
    let a : x ≡ p = cc in
    let b : y ≡ q = cc in
    ap (λ z. same_part z y && is_prefix front all) a ∙ ap (λ z. same_part p z && is_prefix front all) b
prefix_at (x ∷ front) (y ∷ all) (suc at) p q e f =
    let h : suc (at + 1) ≡ suc at + 1 = omega arith in
    subst (λ k. is_prefix (drop at front) (drop at all) ≡ (same_part p q && is_prefix (drop k (x ∷ front)) (drop k (y ∷ all)))) h (prefix_at front all at p q e f)

out_of : (front : List Part) (at : ℕ) → at < length front → is_prefix (drop at front) [] ≡ false
out_of [] at e = absurd (omega (arith, e))
out_of (x ∷ front) zero e = refl
out_of (x ∷ front) (suc at) e = out_of front at (omega (arith, e))

pub prefix_out : (front all : List Part) (at : ℕ) → at < length front → length all ≤ at → is_prefix (drop at front) (drop at all) ≡ false
prefix_out [] all at e f = absurd (omega (arith, e))
prefix_out (x ∷ front) [] zero e f = refl
prefix_out (x ∷ front) [] (suc at) e f = out_of front at (omega (arith, e))
prefix_out (x ∷ front) (y ∷ all) zero e f = absurd (omega (arith, f))
prefix_out (x ∷ front) (y ∷ all) (suc at) e f = prefix_out front all at (omega (arith, e)) (omega (arith, f))

pub prefix_end : (front all : List Part) (at : ℕ) → length front ≤ at → is_prefix (drop at front) (drop at all) ≡ true
prefix_end [] all zero e = refl
prefix_end [] all (suc at) e = refl
prefix_end (x ∷ front) all zero e = absurd (omega (arith, e))
prefix_end (x ∷ front) [] (suc at) e = ended front at (omega (arith, e))
  where
    ended : (front : List Part) (at : ℕ) → length front ≤ at → is_prefix (drop at front) [] ≡ true
    ended [] zero e = refl
    ended [] (suc at) e = refl
    ended (x ∷ front) zero e = absurd (omega (arith, e))
    ended (x ∷ front) (suc at) e = ended front at (omega (arith, e))
prefix_end (x ∷ front) (y ∷ all) (suc at) e = prefix_end front all at (omega (arith, e))

pub ruleset shapes = (later_one, later_none, later_here, has_here, has_later, prefix_at, prefix_out, prefix_end)
