-- Codes of values.
use Rattle.std.proofs.Common.{◌≡◌, ℕ, zero, suc, ◌+◌, ◌-◌, ◌*◌, ◌/◌, ◌%◌, ◌^◌, ◌<◌, ◌≤◌, ◌&&◌, ◌||◌, not, Bool, true, false, List, [], ◌∷◌, ◌++◌, map, length, get_or, take, drop, cond, refl, sym, ◌∙◌, ap, arith}
use Rattle.std.specs.Prelude.{nat_eq, nat_le}
use Rattle.std.proofs.lemmas.Bool.{ne_eqb}
use Rattle.std.proofs.lemmas.Bool.Decides.{nat_tests}
use Rattle.std.proofs.lemmas.Grind.{pow_more}
use Rattle.std.proofs.lemmas.List.{take_more, drop_more, drop_all, length-take-le, map-append}
use Rattle.circuit_core.specs.declared.edge.Edge.{Edge}
use Rattle.other_abstract.specs.declared.value.AbsValue.{AbsValue}
use Rattle.bit_encode.specs.Codes.{bit_number, number_of, bits_of, matches, bits_at, picked, width_from}
use Rattle.bit_encode.proofs.SetLemmas.{or_false, and_false, and_true}

-- bits match a number exactly where they stand for it
pub matches_is : (n : ℕ) (bs : List Bool) → matches n bs ≡ nat_eq (number_of bs) n
matches_is n [] = grind (arith, nat_tests)
matches_is n (true ∷ bs) = ap (λ b. cond (nat_eq (n % 2) 1) true false && b) (matches_is (n / 2) bs) ∙ grind (arith, nat_tests)
matches_is n (false ∷ bs) = ap (λ b. cond (nat_eq (n % 2) 1) false true && b) (matches_is (n / 2) bs) ∙ grind (arith, nat_tests)

picked_one : (p : AbsValue → Bool) (v : AbsValue) (n : ℕ) → picked p (v ∷ []) n ≡ (p v && nat_eq n 0)
picked_one p v zero = sym (and_true (p v))
picked_one p v (suc n) = sym (ap (λ b. p v && b) (ne_eqb (suc n) 0 (λ e. absurd (omega arith))) ∙ and_false (p v))

same_suc : (n m : ℕ) → nat_eq n m ≡ nat_eq (suc n) (suc m)
same_suc n m = grind (arith, nat_tests)

-- one more value
picked_push : (p : AbsValue → Bool) (vs : List AbsValue) (v : AbsValue) (n : ℕ) → picked p (vs ++ v ∷ []) n ≡ (picked p vs n || (p v && nat_eq n (length vs)))
picked_push p [] v n = picked_one p v n
picked_push p (w ∷ vs) v zero = sym (or_false (p w)) ∙ ap (λ b. p w || b) (sym (ap (λ b. p v && b) (ne_eqb 0 (suc (length vs)) (λ e. absurd (omega arith))) ∙ and_false (p v)))
picked_push p (w ∷ vs) v (suc n) = picked_push p vs v n ∙ ap (λ b. picked p vs n || (p v && b)) (same_suc n (length vs))

pub picked_more : (p : AbsValue → Bool) (vs : List AbsValue) (i : ℕ) (d : AbsValue) (bs : List Bool) → i < length vs → picked p (take (i + 1) vs) (number_of bs) ≡ (picked p (take i vs) (number_of bs) || (p (get_or vs i d) && matches i bs))
picked_more p vs i d bs h =
    ap (λ s. picked p s (number_of bs)) (take_more vs i d h)
    ∙ picked_push p (take i vs) (get_or vs i d) (number_of bs)
    ∙ ap (λ k. picked p (take i vs) (number_of bs) || (p (get_or vs i d) && nat_eq (number_of bs) k)) (length-take-le i vs (omega arith))
    ∙ ap (λ b. picked p (take i vs) (number_of bs) || (p (get_or vs i d) && b)) (sym (matches_is i bs))

-- one more bit
pub bit_step : (val : Edge → Bool) (e f : Edge) (bits : List Edge) (i : ℕ) (d : Edge) (rest : ℕ) → i < length bits
    → val f ≡ (val e && cond (nat_eq (rest % 2) 1) (val (get_or bits i d)) (not (val (get_or bits i d))))
    → (val f && matches (rest / 2) (map val (drop (i + 1) bits))) ≡ (val e && matches rest (map val (drop i bits)))
bit_step val e f bits i d rest h eq =
    ap (λ b. b && matches (rest / 2) (map val (drop (i + 1) bits))) eq
    ∙ go (val e) (cond (nat_eq (rest % 2) 1) (val (get_or bits i d)) (not (val (get_or bits i d)))) (matches (rest / 2) (map val (drop (i + 1) bits)))
    ∙ ap (λ s. val e && matches rest (map val s)) (sym (drop_more bits i d h))
  where
    go : (a b c : Bool) → ((a && b) && c) ≡ (a && (b && c))
    go true b c = refl
    go false b c = refl

pub bits_done : (val : Edge → Bool) (e f : Edge) (bits : List Edge) (i : ℕ) (rest : ℕ) → length bits ≤ i → val f ≡ (val e && nat_eq rest 0) → val f ≡ (val e && matches rest (map val (drop i bits)))
bits_done val e f bits i rest h eq = eq ∙ ap (λ s. val e && matches rest (map val s)) (sym (drop_all i bits h))

-- one more input
bits_push : (x : ℕ → Bool) (first n : ℕ) → bits_at x first (suc n) ≡ bits_at x first n ++ x (first + n) ∷ []
bits_push x first zero = let e : first ≡ first + 0 = omega arith in ap (λ k. x k ∷ []) e
bits_push x first (suc n) = let e : suc first + n ≡ first + suc n = omega arith in ap (λ s. x first ∷ s) (bits_push x (suc first) n ∙ ap (λ k. bits_at x (suc first) n ++ x k ∷ []) e)

pub inputs_step : (x : ℕ → Bool) (val : Edge → Bool) (bits more : List Edge) (bit : Edge) (first n k : ℕ) → more ≡ bits ++ bit ∷ [] → map val bits ≡ bits_at x first n → val bit ≡ x k → k ≡ first + n → map val more ≡ bits_at x first (n + 1)
inputs_step x val bits more bit first n k em had one place =
    let e : suc n ≡ n + 1 = omega arith in
    ap (map val) em ∙ map-append val bits (bit ∷ []) ∙ ap (λ s. s ++ val bit ∷ []) had
    ∙ ap (λ b. bits_at x first n ++ b ∷ []) (one ∙ ap x place) ∙ sym (bits_push x first n) ∙ ap (bits_at x first) e

-- the bits of a number stand for it
odd_bit : (n : ℕ) → bit_number (nat_eq (n % 2) 1) ≡ n % 2
odd_bit n = go (n % 2) (omega arith)
  where
    go : (r : ℕ) → r < 2 → bit_number (nat_eq r 1) ≡ r
    go zero h = refl
    go (suc zero) h = refl
    go (suc (suc r)) h = absurd (omega arith)

pow_suc : (w : ℕ) → 2 ^ suc w ≡ 2 ^ w * 2
pow_suc w = let e : suc w ≡ w + 1 = omega arith in ap (λ k. 2 ^ k) e ∙ pow_more 2 w

half_below : (w n : ℕ) → n < 2 ^ suc w → n / 2 < 2 ^ w
half_below w n h = omega (arith, pow_suc w, h)

halves : (n : ℕ) → n % 2 + 2 * (n / 2) ≡ n
halves n = omega arith

pub bits_are_read : (w n : ℕ) → n < 2 ^ w → number_of (bits_of w n) ≡ n
bits_are_read zero n h = omega (arith, h)
bits_are_read (suc w) n h =
    ap (λ k. bit_number (nat_eq (n % 2) 1) + 2 * k) (bits_are_read w (n / 2) (half_below w n h))
    ∙ ap (λ k. k + 2 * (n / 2)) (odd_bit n)
    ∙ halves n

-- so many bits stand for a number below that power of two
pub number_below : (bs : List Bool) → number_of bs < 2 ^ length bs
number_below [] = omega arith
number_below (true ∷ bs) = let l : number_of bs < 2 ^ length bs = number_below bs in omega (arith, pow_suc (length bs), l)
number_below (false ∷ bs) = let l : number_of bs < 2 ^ length bs = number_below bs in omega (arith, pow_suc (length bs), l)

-- how many bits are enough
pub below_power : (n : ℕ) → n ≤ 2 ^ n
below_power zero = omega arith
below_power (suc n) = let l : n ≤ 2 ^ n = below_power n in omega (arith, pow_suc n, l, positive n)
  where
    positive : (k : ℕ) → 1 ≤ 2 ^ k
    positive zero = omega arith
    positive (suc k) = let l : 1 ≤ 2 ^ k = positive k in omega (arith, pow_suc k, l)

pub width_stops : (v b : ℕ) → b < v → v ≤ 2 ^ b → width_from (v - b) b v ≡ b
width_stops v b h enough = go (v - b) (omega arith)
  where
    go : (k : ℕ) → 0 < k → width_from k b v ≡ b
    go zero l = absurd (omega arith)
    go (suc k) l = let e : nat_le v (2 ^ b) ≡ true = grind (arith, nat_tests) in ap (λ t. cond t b (width_from k (suc b) v)) e

pub width_goes_on : (v b : ℕ) → b < v → 2 ^ b < v → width_from (v - b) b v ≡ width_from (v - (b + 1)) (b + 1) v
width_goes_on v b h short = go (v - b) (v - (b + 1)) (omega arith)
  where
    go : (k l : ℕ) → k ≡ suc l → width_from k b v ≡ width_from l (b + 1) v
    go k l e =
        let t : nat_le v (2 ^ b) ≡ false = grind (arith, nat_tests) in
        let s : suc b ≡ b + 1 = omega arith in
        ap (λ j. width_from j b v) e ∙ ap (λ t. cond t b (width_from l (suc b) v)) t ∙ ap (λ j. width_from l j v) s

pub width_ends : (v b : ℕ) → v ≤ b → b ≤ v → width_from (v - b) b v ≡ v
width_ends v b h l = let z : v - b ≡ 0 = omega arith in let e : b ≡ v = omega arith in ap (λ k. width_from k b v) z ∙ e

pub more_needed : (v b c : ℕ) → 2 ^ b < v → v ≤ 2 ^ c → b ≤ c → b + 1 ≤ c
more_needed v b c short enough low = go (nat_eq b c) refl
  where
    go : (t : Bool) → nat_eq b c ≡ t → b + 1 ≤ c
    go true e = let s : b ≡ c = grind (arith, e) in let p : 2 ^ b ≡ 2 ^ c = ap (λ k. 2 ^ k) s in absurd (omega (arith, p))
    go false e = grind (arith, nat_tests)

pub ruleset codes = (picked_more)
