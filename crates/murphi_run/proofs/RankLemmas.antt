-- The numbers of values.
use Rattle.std.proofs.Common.{◌≡◌, ℕ, zero, suc, ◌-◌, ◌<◌, ◌≤◌, true, false, refl, sym, ap, ◌∙◌, arith}
use Rattle.std.specs.Prelude.{ℤ, pos, negsuc, ◌+ℤ◌, ◌-ℤ◌, int_le, nat_eq, nat_lt, nat_le}
use Rattle.std.proofs.lemmas.Int.{ints}
use Rattle.std.proofs.lemmas.Bool.{and_parts, eqb-true, ltb-true, leb-true}
use Rattle.term_core.specs.declared.value.Value.{Value}
use Rattle.term_core.specs.declared.value.Value.TheVariants as v
use Rattle.murphi_typed.specs.declared.types.Simple.{Simple}
use Rattle.murphi_typed.specs.declared.types.Simple.TheVariants as simple
use Rattle.murphi_typed.specs.Values.{is_value, numbers_within}
use Rattle.murphi_run.specs.Layout.{value_count, far, rank}

-- a number is as far above a lower one as it is far
far_back : (low z : ℤ) (o : ℤ) → z -ℤ low ≡ o → int_le low z ≡ true → z ≡ low +ℤ pos (far o)
far_back low z (pos d) e above = omega (arith, ints, e)
far_back low z (negsuc d) e above = absurd (grind (arith, ints, e, above))

far_below : (low high z : ℤ) (o p : ℤ) → z -ℤ low ≡ o → high -ℤ low ≡ p → int_le low z ≡ true → int_le z high ≡ true → far o < numbers_within p
far_below low high z (pos d) (pos e) is was above below = grind (arith, ints, is, was, above, below)
far_below low high z (pos d) (negsuc e) is was above below = absurd (grind (arith, ints, is, was, above, below))
far_below low high z (negsuc d) p is was above below = absurd (grind (arith, ints, is, above))

pub rank_below : (N : ℕ) (type : Simple) (x : Value) → is_value N type x ≡ true → rank type x < value_count N type
rank_below N simple.Truth (v.Truth true) e = omega arith
rank_below N simple.Truth (v.Truth false) e = omega arith
rank_below N simple.Truth v.Undefined e = cc
rank_below N simple.Truth (v.Number z) e = cc
rank_below N simple.Truth (v.Member k i) e = cc
rank_below N simple.Truth (v.Node n) e = cc
rank_below N (simple.Range low high) (v.Number z) e =
    let (above, below) = and_parts (int_le low z) (int_le z high) e in
    far_below low high z (z -ℤ low) (high -ℤ low) refl refl above below
rank_below N (simple.Range low high) v.Undefined e = cc
rank_below N (simple.Range low high) (v.Truth b) e = cc
rank_below N (simple.Range low high) (v.Member k i) e = cc
rank_below N (simple.Range low high) (v.Node n) e = cc
rank_below N (simple.Listed kind count) (v.Member k i) e = let (same, below) = and_parts (nat_eq kind k) (nat_lt i count) e in ltb-true i count below
rank_below N (simple.Listed kind count) v.Undefined e = cc
rank_below N (simple.Listed kind count) (v.Truth b) e = cc
rank_below N (simple.Listed kind count) (v.Number z) e = cc
rank_below N (simple.Listed kind count) (v.Node n) e = cc
rank_below N (simple.Scalarset kind count) (v.Member k i) e = let (same, below) = and_parts (nat_eq kind k) (nat_lt i count) e in ltb-true i count below
rank_below N (simple.Scalarset kind count) v.Undefined e = cc
rank_below N (simple.Scalarset kind count) (v.Truth b) e = cc
rank_below N (simple.Scalarset kind count) (v.Number z) e = cc
rank_below N (simple.Scalarset kind count) (v.Node n) e = cc
rank_below N simple.Node (v.Node n) e =
    let (low, high) = and_parts (nat_le 1 n) (nat_le n N) e in
    omega (arith, leb-true 1 n low, leb-true n N high)
rank_below N simple.Node v.Undefined e = cc
rank_below N simple.Node (v.Truth b) e = cc
rank_below N simple.Node (v.Number z) e = cc
rank_below N simple.Node (v.Member k i) e = cc

-- what a value of each type is, by its number
abbrev of_rank : Simple → ℕ → Value
of_rank simple.Truth zero = v.Truth false
of_rank simple.Truth (suc k) = v.Truth true
of_rank (simple.Range low high) k = v.Number (low +ℤ pos k)
of_rank (simple.Listed kind count) k = v.Member kind k
of_rank (simple.Scalarset kind count) k = v.Member kind k
of_rank simple.Node k = v.Node (suc k)

before_next : (n : ℕ) → 1 ≤ n → n ≡ suc (n - 1)
before_next n e = omega (arith, e)

of_rank_is : (N : ℕ) (type : Simple) (x : Value) → is_value N type x ≡ true → x ≡ of_rank type (rank type x)
of_rank_is N simple.Truth (v.Truth true) e = refl
of_rank_is N simple.Truth (v.Truth false) e = refl
of_rank_is N simple.Truth v.Undefined e = cc
of_rank_is N simple.Truth (v.Number z) e = cc
of_rank_is N simple.Truth (v.Member k i) e = cc
of_rank_is N simple.Truth (v.Node n) e = cc
of_rank_is N (simple.Range low high) (v.Number z) e =
    let (above, below) = and_parts (int_le low z) (int_le z high) e in
    ap v.Number (far_back low z (z -ℤ low) refl above)
of_rank_is N (simple.Range low high) v.Undefined e = cc
of_rank_is N (simple.Range low high) (v.Truth b) e = cc
of_rank_is N (simple.Range low high) (v.Member k i) e = cc
of_rank_is N (simple.Range low high) (v.Node n) e = cc
of_rank_is N (simple.Listed kind count) (v.Member k i) e = let (same, below) = and_parts (nat_eq kind k) (nat_lt i count) e in ap (λ j. v.Member j i) (sym (eqb-true kind k same))
of_rank_is N (simple.Listed kind count) v.Undefined e = cc
of_rank_is N (simple.Listed kind count) (v.Truth b) e = cc
of_rank_is N (simple.Listed kind count) (v.Number z) e = cc
of_rank_is N (simple.Listed kind count) (v.Node n) e = cc
of_rank_is N (simple.Scalarset kind count) (v.Member k i) e = let (same, below) = and_parts (nat_eq kind k) (nat_lt i count) e in ap (λ j. v.Member j i) (sym (eqb-true kind k same))
of_rank_is N (simple.Scalarset kind count) v.Undefined e = cc
of_rank_is N (simple.Scalarset kind count) (v.Truth b) e = cc
of_rank_is N (simple.Scalarset kind count) (v.Number z) e = cc
of_rank_is N (simple.Scalarset kind count) (v.Node n) e = cc
of_rank_is N simple.Node (v.Node n) e = let (low, high) = and_parts (nat_le 1 n) (nat_le n N) e in ap v.Node (before_next n (leb-true 1 n low))
of_rank_is N simple.Node v.Undefined e = cc
of_rank_is N simple.Node (v.Truth b) e = cc
of_rank_is N simple.Node (v.Number z) e = cc
of_rank_is N simple.Node (v.Member k i) e = cc

pub rank_same : (N : ℕ) (type : Simple) (x y : Value) → is_value N type x ≡ true → is_value N type y ≡ true → rank type x ≡ rank type y → x ≡ y
rank_same N type x y e f same = of_rank_is N type x e ∙ ap (of_rank type) same ∙ sym (of_rank_is N type y f)
