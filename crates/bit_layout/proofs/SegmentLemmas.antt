-- Lists of bits as assignments, and the code of a state among them.
use Rattle.std.proofs.Common.{◌≡◌, ℕ, zero, suc, ◌+◌, ◌/◌, ◌^◌, ◌<◌, ◌≤◌, ◌&&◌, ◌||◌, Bool, true, false, cond, List, [], ◌∷◌, ◌++◌, length, get_or, refl, sym, ◌∙◌, ap, subst, arith}
use Rattle.std.specs.Prelude.{nat_lt, slice_get, Some}
use Rattle.std.specs.List.{list_any}
use Rattle.std.proofs.lemmas.Bool.{and_parts}
use Rattle.std.proofs.lemmas.Bool.Decides.{nat_tests}
use Rattle.other_abstract.specs.declared.value.AbsValue.{AbsValue}
use Rattle.other_abstract.specs.declared.value.AbsValue.TheVariants.{Undefined}
use Rattle.other_abstract.specs.Windows.{same_value}
use Rattle.other_abstract.specs.May.{AbsCells}
use Rattle.bit_encode.specs.Codes.{width, number_of, bits_of, bits_at, bit_count, coded_place, coded_state, is_legal}
use Rattle.bit_encode.specs.Laws.{BitsStandForNumbers, WidthsAreLeast}

-- the inputs from this one on are these bits
abbrev pub Holds : (ℕ → Bool) → ℕ → List Bool → Type 0
Holds x first [] = Unit {0}
Holds x first (b ∷ bs) = (x first ≡ b) × Holds x (suc first) bs

-- a list of bits as an assignment
abbrev pub assigned : List Bool → ℕ → Bool
assigned bs k = get_or bs k false

holds_shift : (b : Bool) (bs cs : List Bool) (first : ℕ) → Holds (assigned bs) first cs → Holds (assigned (b ∷ bs)) (suc first) cs
holds_shift b bs [] first h = tt
holds_shift b bs (c ∷ cs) first h = (h.0, holds_shift b bs cs (suc first) h.1)

pub holds_all : (bs : List Bool) → Holds (assigned bs) 0 bs
holds_all [] = tt
holds_all (b ∷ bs) = (refl, holds_shift b bs bs 0 (holds_all bs))

pub holds_front : (x : ℕ → Bool) (first : ℕ) (bs cs : List Bool) → Holds x first (bs ++ cs) → Holds x first bs
holds_front x first [] cs h = tt
holds_front x first (b ∷ bs) cs h = (h.0, holds_front x (suc first) bs cs h.1)

pub holds_back : (x : ℕ → Bool) (first : ℕ) (bs cs : List Bool) → Holds x first (bs ++ cs) → Holds x (first + length bs) cs
holds_back x first [] cs h = let e : first ≡ first + 0 = omega arith in subst (λ k. Holds x k cs) e h
holds_back x first (b ∷ bs) cs h = let e : suc first + length bs ≡ first + suc (length bs) = omega arith in subst (λ k. Holds x k cs) e (holds_back x (suc first) bs cs h.1)

pub holds_bits : (x : ℕ → Bool) (first : ℕ) (bs : List Bool) → Holds x first bs → bits_at x first (length bs) ≡ bs
holds_bits x first [] h = refl
holds_bits x first (b ∷ bs) h = ap (λ c. c ∷ bits_at x (suc first) (length bs)) h.0 ∙ ap (λ l. b ∷ l) (holds_bits x (suc first) bs h.1)

pub length_bits : (w n : ℕ) → length (bits_of w n) ≡ w
length_bits zero n = refl
length_bits (suc w) n = ap suc (length_bits w (n / 2))

-- A number that so many bits can stand for is coded by its bits.
pub number_held : BitsStandForNumbers → (x : ℕ → Bool) (first w n : ℕ) → n < 2 ^ w → Holds x first (bits_of w n) → number_of (bits_at x first w) ≡ n
number_held stand x first w n l h =
    ap (λ k. number_of (bits_at x first k)) (sym (length_bits w n)) ∙ ap number_of (holds_bits x first (bits_of w n) h) ∙ stand w n l

pub position_held : BitsStandForNumbers → WidthsAreLeast → (x : ℕ → Bool) (first count n : ℕ) → n < count → Holds x first (bits_of (width count) n) → number_of (bits_at x first (width count)) ≡ n
position_held stand least x first count n l h =
    let enough : count ≤ 2 ^ width count = (least count).0 in
    number_held stand x first (width count) n (omega (arith, l, enough)) h

-- The code of a state: the first position of each value among those of its cell.

abbrev pub position : List AbsValue → AbsValue → ℕ
position [] v = 0
position (u ∷ us) v = cond (same_value u v) 0 (suc (position us v))

abbrev pub stands : List AbsValue → AbsValue → Bool
stands us v = list_any (λ u. same_value u v) us

abbrev pub codes_of : List (List AbsValue) → AbsCells → List Bool
codes_of [] w = []
codes_of (vs ∷ ls) [] = []
codes_of (vs ∷ ls) (v ∷ w) = bits_of (width (length vs)) (position vs v) ++ codes_of ls w

abbrev pub all_stand : List (List AbsValue) → AbsCells → Bool
all_stand [] [] = true
all_stand (vs ∷ ls) (v ∷ w) = stands vs v && all_stand ls w
all_stand _ _ = false

abbrev pub SameIs : Type 0
SameIs = (u v : AbsValue) → same_value u v ≡ true → u ≡ v

position_there : SameIs → (us : List AbsValue) (v : AbsValue) → stands us v ≡ true → (position us v < length us) × (get_or us (position us v) Undefined ≡ v)
position_there same [] v h = cc
position_there same (u ∷ us) v h = go (same_value u v) refl h (λ l. position_there same us v l)
  where
    go : (b : Bool) → same_value u v ≡ b → (b || stands us v) ≡ true → (stands us v ≡ true → (position us v < length us) × (get_or us (position us v) Undefined ≡ v))
        → (cond b 0 (suc (position us v)) < suc (length us)) × (get_or (u ∷ us) (cond b 0 (suc (position us v))) Undefined ≡ v)
    go true e h later = (omega arith, same u v e)
    go false e h later = let rest = later h in (omega (arith, rest.0), rest.1)

length_append : {X : Type 0} (xs ys : List X) → length (xs ++ ys) ≡ length xs + length ys
length_append [] ys = let e : length ys ≡ 0 + length ys = omega arith in e
length_append (x ∷ xs) ys = let e = length_append xs ys in omega (arith, e)

pub length_codes : (ls : List (List AbsValue)) (w : AbsCells) → all_stand ls w ≡ true → length (codes_of ls w) ≡ bit_count ls
length_codes [] [] h = refl
length_codes [] (v ∷ w) h = cc
length_codes (vs ∷ ls) [] h = cc
length_codes (vs ∷ ls) (v ∷ w) h =
    let parts = and_parts (stands vs v) (all_stand ls w) h in
    length_append (bits_of (width (length vs)) (position vs v)) (codes_of ls w)
    ∙ ap (λ k. k + length (codes_of ls w)) (length_bits (width (length vs)) (position vs v))
    ∙ ap (λ k. width (length vs) + k) (length_codes ls w parts.1)

both_true : (a b : Bool) → a ≡ true → b ≡ true → (a && b) ≡ true
both_true a b e f = ap (λ c. c && b) e ∙ f

-- Inputs that hold the code of a state code it, legally.
pub code_held : BitsStandForNumbers → WidthsAreLeast → SameIs → (x : ℕ → Bool) (first : ℕ) (ls : List (List AbsValue)) (w : AbsCells) → all_stand ls w ≡ true → Holds x first (codes_of ls w)
    → (is_legal x first ls ≡ true) × (coded_state x first ls ≡ w)
code_held stand least same x first [] [] all h = (refl, refl)
code_held stand least same x first [] (v ∷ w) all h = cc
code_held stand least same x first (vs ∷ ls) [] all h = cc
code_held stand least same x first (vs ∷ ls) (v ∷ w) all h =
    let parts = and_parts (stands vs v) (all_stand ls w) all in
    let there = position_there same vs v parts.0 in
    let bs : List Bool = bits_of (width (length vs)) (position vs v) in
    let here : coded_place x first vs ≡ position vs v = position_held stand least x first (length vs) (position vs v) there.0 (holds_front x first bs (codes_of ls w) h) in
    let rest = code_held stand least same x (first + width (length vs)) ls w parts.1
    (subst (λ k. Holds x (first + k) (codes_of ls w)) (length_bits (width (length vs)) (position vs v)) (holds_back x first bs (codes_of ls w) h)) in
    let inside : nat_lt (coded_place x first vs) (length vs) ≡ true = grind (arith, nat_tests, here, there.0) in (
      both_true (nat_lt (coded_place x first vs) (length vs)) (is_legal x (first + width (length vs)) ls) inside rest.0,
      ap (λ k. get_or vs k Undefined ∷ coded_state x (first + width (length vs)) ls) here
          ∙ ap (λ u. u ∷ coded_state x (first + width (length vs)) ls) there.1
          ∙ ap (λ u. v ∷ u) rest.1,
    )

-- each value stands among those of its cell
pub each_stands : (ls : List (List AbsValue)) (w : AbsCells) → length w ≡ length ls
    → ((k : ℕ) (vs : List AbsValue) (v : AbsValue) → slice_get ls k ≡ Some vs → slice_get w k ≡ Some v → stands vs v ≡ true) → all_stand ls w ≡ true
each_stands [] [] e each = refl
each_stands [] (v ∷ w) e each = absurd (omega (arith, e))
each_stands (vs ∷ ls) [] e each = absurd (omega (arith, e))
each_stands (vs ∷ ls) (v ∷ w) e each = both_true (stands vs v) (all_stand ls w) (each 0 vs v refl refl) (each_stands ls w (omega (arith, e)) (λ k us u f g. each (suc k) us u f g))
