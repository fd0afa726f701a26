-- When the result of an operation is in range: comparisons of the parts with bounds say so.
use Rattle.std.proofs.Common.{◌≡◌, ℕ, zero, suc, ◌*◌, ◌/◌, ◌^◌, ◌<◌, ◌≤◌, Bool, true, false, not, ◌&&◌, cond, ◌⊎◌, inl, inr, refl, ap, ◌∙◌, arith}
use Rattle.std.specs.Prelude.{ℤ, pos, negsuc, ◌+ℤ◌, ◌-ℤ◌, ◌*ℤ◌, neg_ℤ, int_lt, int_div, int_rem, nat_lt}
use Rattle.std.proofs.lemmas.Int.{ints}
use Rattle.std.proofs.Math.Nat.{le-div_iff_mul-le, div-le_self}
use Rattle.term_core.specs.Values.{is_number, in_range, is_zero, same_number, arith as arith_of}
use Rattle.term_core.specs.declared.value.ArithOp.TheVariants as op

pub sum_fits : (x y : ℤ) → is_number x ≡ true → is_number y ≡ true → cond (int_lt (pos 0) y) (not (int_lt (in_range (pos 32767 -ℤ y)) x)) (not (int_lt x (in_range (negsuc 32767 -ℤ y)))) ≡ is_number (x +ℤ y)
sum_fits (pos x) (pos y) e f = grind (arith, ints)
sum_fits (pos x) (negsuc y) e f = grind (arith, ints)
sum_fits (negsuc x) (pos y) e f = grind (arith, ints)
sum_fits (negsuc x) (negsuc y) e f = grind (arith, ints)

pub difference_fits : (x y : ℤ) → is_number x ≡ true → is_number y ≡ true → cond (int_lt (pos 0) y) (not (int_lt x (in_range (negsuc 32767 +ℤ y)))) (not (int_lt (in_range (pos 32767 +ℤ y)) x)) ≡ is_number (x -ℤ y)
difference_fits (pos x) (pos y) e f = grind (arith, ints)
difference_fits (pos x) (negsuc y) e f = grind (arith, ints)
difference_fits (negsuc x) (pos y) e f = grind (arith, ints)
difference_fits (negsuc x) (negsuc y) e f = grind (arith, ints)

-- the comparison with a quotient is one with the product
abbrev Compared : ℕ → ℕ → ℕ → Type 0
Compared a k n = ((a ≤ n / k) × (a * k ≤ n)) ⊎ ((n / k < a) × (n < a * k))

compared : (a k n : ℕ) → 0 < k → Compared a k n
compared a k n low = go (nat_lt (n / k) a) refl
  where
    go : (b : Bool) → nat_lt (n / k) a ≡ b → Compared a k n
    go false was = let h : a ≤ n / k = grind (arith, was) in inl (h, (le-div_iff_mul-le low).0 h)
    go true was = let h : n / k < a = grind (arith, was) in inr (h, over h (nat_lt n (a * k)) refl)
      where
        over : n / k < a → (b : Bool) → nat_lt n (a * k) ≡ b → n < a * k
        over h true is = grind (arith, is)
        over h false is = let g : a ≤ n / k = (le-div_iff_mul-le low).1 (grind (arith, is)) in absurd (omega (arith, h, g))

abbrev test_with : ℤ → ℤ → ℤ → ℤ → Bool
test_with high low x y =
    cond (int_lt (pos 0) y) (not (int_lt high x) && (not (int_lt x low) && true))
    (cond (is_zero y) true
    (cond (same_number y (negsuc 0)) (not (same_number x (negsuc 32767)))
    (not (int_lt x high) && (not (int_lt low x) && true))))

abbrev pub product_test : ℤ → ℤ → Bool
product_test x y = test_with (arith_of op.Divide (pos 32767) y) (arith_of op.Divide (negsuc 32767) y) x y

-- the four signs, with the quotients and the product as numbers
abbrev Meets : ℕ → ℕ → ℕ → ℕ → Type 0
Meets a q p n = ((a ≤ q) × (p ≤ n)) ⊎ ((q < a) × (n < p))

up_up : (a q r p : ℕ) → q ≤ 32767 → r ≤ 32768 → Meets a q p 32767 → (not (int_lt (in_range (pos q)) (pos a)) && (not (int_lt (pos a) (in_range (neg_ℤ (pos r)))) && true)) ≡ is_number (pos p)
up_up a q r p k l (inl (h, g)) = grind (arith, ints)
up_up a q r p k l (inr (h, g)) = grind (arith, ints)

down_up : (a q r p : ℕ) → q ≤ 32767 → r ≤ 32768 → Meets (suc a) r p 32768 → (not (int_lt (in_range (pos q)) (negsuc a)) && (not (int_lt (negsuc a) (in_range (neg_ℤ (pos r)))) && true)) ≡ is_number (neg_ℤ (pos p))
down_up a q r p k l (inl (h, g)) = grind (arith, ints)
down_up a q r p k l (inr (h, g)) = grind (arith, ints)

up_down : (a q r p : ℕ) → q ≤ 32767 → r ≤ 32767 → Meets a r p 32768 → (not (int_lt (pos a) (in_range (neg_ℤ (pos q)))) && (not (int_lt (in_range (pos r)) (pos a)) && true)) ≡ is_number (neg_ℤ (pos p))
up_down a q r p k l (inl (h, g)) = grind (arith, ints)
up_down a q r p k l (inr (h, g)) = grind (arith, ints)

down_down : (a q r p : ℕ) → q ≤ 32767 → r ≤ 32767 → Meets (suc a) q p 32767 → (not (int_lt (negsuc a) (in_range (neg_ℤ (pos q)))) && (not (int_lt (in_range (pos r)) (negsuc a)) && true)) ≡ is_number (pos p)
down_down a q r p k l (inl (h, g)) = grind (arith, ints)
down_down a q r p k l (inr (h, g)) = grind (arith, ints)

taken : {A : Type 0} (b : Bool) (x y : A) → b ≡ true → cond b x y ≡ x
taken true x y e = refl
taken false x y e = cc

halved : (n b : ℕ) → n ≤ 32768 → n / suc (suc b) ≤ 32767
halved n b low = go (compared 32768 (suc (suc b)) n (omega arith))
  where
    go : Compared 32768 (suc (suc b)) n → n / suc (suc b) ≤ 32767
    go (inr (h, g)) = omega (arith, h)
    go (inl (h, g)) = absurd (omega (arith, g, low))

others : {A : Type 0} (b : Bool) (x y : A) → b ≡ false → cond b x y ≡ y
others true x y e = cc
others false x y e = refl

divided : (x y high low : ℤ) → is_zero y ≡ false → in_range (int_div (pos 32767) y) ≡ high → in_range (int_div (negsuc 32767) y) ≡ low → product_test x y ≡ test_with high low x y
divided x y high low nz e f =
    ap (λ h. test_with h (arith_of op.Divide (negsuc 32767) y) x y) (others (is_zero y) (pos 0) (in_range (int_div (pos 32767) y)) nz ∙ e)
    ∙ ap (λ l. test_with high l x y) (others (is_zero y) (pos 0) (in_range (int_div (negsuc 32767) y)) nz ∙ f)

up_test : (high low x y : ℤ) → int_lt (pos 0) y ≡ true → test_with high low x y ≡ (not (int_lt high x) && (not (int_lt x low) && true))
up_test high low x y e = taken (int_lt (pos 0) y) _ _ e

down_test : (high low x : ℤ) (b : ℕ) → test_with high low x (negsuc (suc b)) ≡ (not (int_lt x high) && (not (int_lt low x) && true))
down_test high low x b = others (same_number (negsuc (suc b)) (negsuc 0)) _ _ (grind arith)

not_zero : (b : ℕ) → is_zero (pos (suc b)) ≡ false
not_zero b = grind arith

above : (b : ℕ) → int_lt (pos 0) (pos (suc b)) ≡ true
above b = grind arith

pub product_fits : (x y : ℤ) → is_number x ≡ true → is_number y ≡ true → product_test x y ≡ is_number (x *ℤ y)
product_fits (pos a) (pos zero) e f = grind (arith, ints)
product_fits (negsuc a) (pos zero) e f = grind (arith, ints)
product_fits (pos a) (pos (suc b)) e f =
    divided (pos a) (pos (suc b)) _ _ (not_zero b) refl refl
    ∙ up_test _ _ (pos a) (pos (suc b)) (above b)
    ∙ up_up a (32767 / suc b) (32768 / suc b) (a * suc b) (div-le_self 32767 (suc b)) (div-le_self 32768 (suc b)) (compared a (suc b) 32767 (omega arith))
product_fits (negsuc a) (pos (suc b)) e f =
    divided (negsuc a) (pos (suc b)) _ _ (not_zero b) refl refl
    ∙ up_test _ _ (negsuc a) (pos (suc b)) (above b)
    ∙ down_up a (32767 / suc b) (32768 / suc b) (suc a * suc b) (div-le_self 32767 (suc b)) (div-le_self 32768 (suc b)) (compared (suc a) (suc b) 32768 (omega arith))
product_fits (pos a) (negsuc zero) e f = grind (arith, ints)
product_fits (negsuc a) (negsuc zero) e f = grind (arith, ints)
product_fits (pos a) (negsuc (suc b)) e f =
    divided (pos a) (negsuc (suc b)) _ _ refl refl refl
    ∙ down_test _ _ (pos a) b
    ∙ up_down a (32767 / suc (suc b)) (32768 / suc (suc b)) (a * suc (suc b)) (div-le_self 32767 (suc (suc b))) (halved 32768 b (omega arith)) (compared a (suc (suc b)) 32768 (omega arith))
product_fits (negsuc a) (negsuc (suc b)) e f =
    divided (negsuc a) (negsuc (suc b)) _ _ refl refl refl
    ∙ down_test _ _ (negsuc a) b
    ∙ down_down a (32767 / suc (suc b)) (32768 / suc (suc b)) (suc a * suc (suc b)) (div-le_self 32767 (suc (suc b))) (halved 32768 b (omega arith)) (compared (suc a) (suc (suc b)) 32767 (omega arith))

-- of a quotient: only the least number divided by -1 is out of range; of a remainder nothing is
pub quotient_fits : (x y : ℤ) → is_number x ≡ true → is_number y ≡ true → is_zero y ≡ false → not (same_number x (negsuc 32767) && (same_number y (negsuc 0) && true)) ≡ is_number (int_div x y)
quotient_fits (pos a) (pos b) e f nz = let k = div-le_self a b in grind (arith, ints, k)
quotient_fits (pos a) (negsuc b) e f nz = let k = div-le_self a (suc b) in grind (arith, ints, k)
quotient_fits (negsuc a) (pos b) e f nz = let k = div-le_self (suc a) b in grind (arith, ints, k)
quotient_fits (negsuc a) (negsuc zero) e f nz = grind (arith, ints)
quotient_fits (negsuc a) (negsuc (suc b)) e f nz = let (h, g) = half in grind (arith, ints, h)
  where
    half : (suc a / suc (suc b) ≤ 16384) × (0 ≤ 0)
    half = (go (compared 16385 (suc (suc b)) (suc a) (omega arith)), omega arith)
      where
        go : Compared 16385 (suc (suc b)) (suc a) → suc a / suc (suc b) ≤ 16384
        go (inr (h, g)) = omega (arith, h)
        go (inl (h, g)) = absurd (let l : a < 2 ^ 15 = grind (arith, e) in omega (arith, g, l))

pub remainder_fits : (x y : ℤ) → is_number x ≡ true → is_number (int_rem x y) ≡ true
remainder_fits (pos a) y e = grind (arith, ints)
remainder_fits (negsuc a) y e = grind (arith, ints)
