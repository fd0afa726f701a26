-- The values of a type, in order.
use Rattle.std.proofs.Common.{◌≡◌, ℕ, zero, suc, ◌+◌, ◌-◌, ◌<◌, ◌≤◌, List, [], ◌∷◌, ◌++◌, map, refl, ap, ◌∙◌, arith}
use Rattle.std.specs.Prelude.{ℤ, pos, negsuc, ◌+ℤ◌, ◌-ℤ◌, ◌≤ℤ◌, ◌<ℤ◌, unsigned_abs}
use Rattle.term_core.specs.declared.value.Value.TheVariants as value
use Rattle.term_core.specs.Nodes.{nodes_from}
use Rattle.murphi_typed.specs.Values.{members, numbers_from, numbers_within}
use Rattle.rule_terms.proofs.ListLemmas.{mapped_joined, after_after, nothing_after}

nodes_on : (first count : ℕ) → nodes_from first (suc count) ≡ nodes_from first count ++ (first + count) ∷ []
nodes_on first zero = let e : first ≡ first + 0 = omega arith in ap (λ n. n ∷ []) e
nodes_on first (suc count) = let e : suc first + count ≡ first + suc count = omega arith in ap (λ ns. first ∷ ns) (nodes_on (suc first) count ∙ ap (λ n. nodes_from (suc first) count ++ n ∷ []) e)

mapped_on : {A B : Type 0} (f : A → B) (xs : List A) (x : A) → map f (xs ++ x ∷ []) ≡ map f xs ++ f x ∷ []
mapped_on f [] x = refl
mapped_on f (y ∷ xs) x = ap (λ ys. f y ∷ ys) (mapped_on f xs x)

pub members_on : (kind count : ℕ) → members kind (count + 1) ≡ members kind count ++ value.Member kind count ∷ []
members_on kind count =
    let e : count + 1 ≡ suc count = omega arith in
    let z : 0 + count ≡ count = omega arith in
    ap (members kind) e ∙ ap (map (λ index. value.Member kind index)) (nodes_on 0 count)
    ∙ mapped_on (λ index. value.Member kind index) (nodes_from 0 count) (0 + count)
    ∙ ap (λ n. map (λ index. value.Member kind index) (nodes_from 0 count) ++ value.Member kind n ∷ []) z

pub no_members : (kind : ℕ) → members kind 0 ≡ []
no_members kind = refl

-- the numbers of a range, by how many they are

pub numbers_first : (low : ℤ) (count : ℕ) → numbers_from (low +ℤ pos 0) (count - 0) ≡ numbers_from low count
numbers_first low count = let e : low +ℤ pos 0 ≡ low = grind arith in let f : count - 0 ≡ count = omega arith in ap (λ z. numbers_from z (count - 0)) e ∙ ap (numbers_from low) f

pub numbers_more : (low : ℤ) (k count : ℕ) → k < count → numbers_from (low +ℤ pos k) (count - k) ≡ (low +ℤ pos k) ∷ numbers_from (low +ℤ pos (k + 1)) (count - (k + 1))
numbers_more low k count h =
    let e : count - k ≡ suc (count - (k + 1)) = omega (arith, h) in
    let f : low +ℤ pos k +ℤ pos 1 ≡ low +ℤ pos (k + 1) = grind arith in
    ap (numbers_from (low +ℤ pos k)) e ∙ ap (λ z. (low +ℤ pos k) ∷ numbers_from z (count - (k + 1))) f

pub numbers_none : (z : ℤ) (k count : ℕ) → count ≤ k → numbers_from z (count - k) ≡ []
numbers_none z k count h = let e : count - k ≡ 0 = omega (arith, h) in ap (numbers_from z) e

pub count_made : (low high : ℤ) → low ≤ℤ high → low +ℤ pos (unsigned_abs (high -ℤ low) + 1) ≡ high +ℤ pos 1
count_made low high h = go (high -ℤ low) refl
  where
    go : (d : ℤ) → high -ℤ low ≡ d → low +ℤ pos (unsigned_abs d + 1) ≡ high +ℤ pos 1
    go (pos n) e = grind (arith, e)
    go (negsuc n) e = absurd (grind (arith, e, h))

pub count_is : (low high : ℤ) (count : ℕ) → low +ℤ pos count ≡ high +ℤ pos 1 → numbers_within (high -ℤ low) ≡ count
count_is low high count h = go (high -ℤ low) refl
  where
    go : (d : ℤ) → high -ℤ low ≡ d → numbers_within d ≡ count
    go (pos n) e = grind (arith, e, h)
    go (negsuc n) e = grind (arith, e, h)

pub none_counted : (low high : ℤ) → high <ℤ low → numbers_within (high -ℤ low) ≡ 0
none_counted low high h = go (high -ℤ low) refl
  where
    go : (d : ℤ) → high -ℤ low ≡ d → numbers_within d ≡ 0
    go (pos n) e = absurd (grind (arith, e, h))
    go (negsuc n) e = refl

pub within_range : (low high : ℤ) (k count : ℕ) → k < count → low +ℤ pos count ≡ high +ℤ pos 1 → (low +ℤ pos k) ≤ℤ high
within_range low high k count h e = grind (arith, h, e)

pub ruleset valuing = (members_on, no_members, mapped_joined, after_after, nothing_after, numbers_first, numbers_more, numbers_none, count_made, count_is, none_counted, within_range)
