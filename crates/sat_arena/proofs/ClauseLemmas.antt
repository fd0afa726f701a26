-- The literals of one clause: those that it is watched at, and that none stands twice.
use Rattle.std.proofs.Common.{◌≡◌, ℕ, ◌+◌, ◌*◌, ◌<◌, ◌≤◌, ◌||◌, zero, suc, Bool, true, false, cond, List, [], ◌∷◌, length, get_or, set, take, eqb, refl, sym, ◌∙◌, ap, subst, arith, inl, inr, ◌⊎◌, Some, None}
use Rattle.std.specs.List.{list_any, swap}
use Rattle.std.specs.Option.{is_some}
use Rattle.std.proofs.lemmas.Bool.{cases_Bool, or_parts, cases_eq, eq-eqb, ne_eqb, eqb-true, cond-true, cond-false}
use Rattle.std.proofs.lemmas.List.Sums.{sum_by-set, sum_by-cons, get_or-le-sum_by, count_by_more_yes, count_by_more_no}
use Rattle.std.proofs.lemmas.List.{get_or_default, length-set, get_or-set_same, get_or-set_other}
use Rattle.std.proofs.lemmas.List.Edits.{length-swap}
use Rattle.std.specs.Prelude.{All}
use Rattle.std.proofs.lemmas.List.Elements.{All-get_or, All-set}
use Rattle.clause_core.specs.declared.literal.Lit.{Lit}
use Rattle.clause_core.specs.Literal.{variable_of}
use Rattle.clause_core.specs.Formula.{IsInRange}
use Rattle.sat_arena.specs.declared.id.ClauseId.{ClauseId}
use Rattle.clause_core.specs.Members.{times, NoneTwice}
use Rattle.sat_arena.specs.Linking.{IsKept, position_in, says_swapped}

-- what a clause says, by its first two literals
pub says_by : (c : List Lit) (first second d : ℕ) (a b : Lit) → 2 ≤ length c → position_in c first second d ≡ cond (eqb (get_or c 0 a).code d) (Some first) (cond (eqb (get_or c 1 b).code d) (Some second) None)
says_by [] first second d a b h = absurd (omega arith)
says_by (x ∷ []) first second d a b h = absurd (omega arith)
says_by (x ∷ y ∷ ls) first second d a b h = refl

-- whether one of the first two literals has a code
abbrev pub among_two : ℕ → List Lit → Bool
among_two d c = list_any (λ (k : Lit). eqb k.code d) (take 2 c)

or_false : (b : Bool) → (b || false) ≡ b
or_false true = refl
or_false false = refl

pub says_among : (c : List Lit) (first second d : ℕ) → (0 < length c → 2 ≤ length c) → is_some (position_in c first second d) ≡ among_two d c
says_among [] first second d h = refl
says_among (x ∷ []) first second d h = absurd (let n : 2 ≤ length (x ∷ []) = h (omega arith) in omega arith)
says_among (x ∷ y ∷ ls) first second d h = go (cases_Bool (eqb x.code d)) (cases_Bool (eqb y.code d)) where
  go : (eqb x.code d ≡ true) ⊎ (eqb x.code d ≡ false) → (eqb y.code d ≡ true) ⊎ (eqb y.code d ≡ false) → is_some (position_in (x ∷ y ∷ ls) first second d) ≡ among_two d (x ∷ y ∷ ls)
  go (inl e) f = rw e refl
  go (inr e) (inl f) = rw (e, f) refl
  go (inr e) (inr f) = rw (e, f) refl

among_long : (d : ℕ) (c : List Lit) → among_two d c ≡ true → 0 < length c
among_long d [] e = cc
among_long d (x ∷ c) e = omega arith

pub among_filled : (d : ℕ) (c : List Lit) → among_two d c ≡ true → 0 < length c
among_filled d c e = among_long d c e

-- no literal twice

times_cons : (l x : Lit) (c : List Lit) → times l (x ∷ c) ≡ cond (eqb x.code l.code) 1 0 + times l c
times_cons l x c = sum_by-cons (λ (k : Lit). cond (eqb k.code l.code) 1 0) x c

at_most_tail : (l x : Lit) (c : List Lit) → times l (x ∷ c) ≤ 1 → times l c ≤ 1
at_most_tail l x c h = let e : times l (x ∷ c) ≡ cond (eqb x.code l.code) 1 0 + times l c = times_cons l x c in bound _ _ _ e h where
  bound : (m n k : ℕ) → m ≡ n + k → m ≤ 1 → k ≤ 1
  bound m n k e h = omega arith

pub codes_differ : (c : List Lit) (i j : ℕ) (a b : Lit) → NoneTwice c → i < j → j < length c → (get_or c i a).code ≡ (get_or c j b).code → ⊥
codes_differ [] i j a b once l n e = absurd (omega arith)
codes_differ (x ∷ c) i zero a b once l n e = absurd (omega arith)
codes_differ (x ∷ c) zero (suc j) a b once l n e =
    let one : cond (eqb (get_or c j b).code x.code) 1 0 ≤ times x c = get_or-le-sum_by (λ (k : Lit). cond (eqb k.code x.code) 1 0) c j b (omega arith) in
    two _ _ _ _ (times_cons x x c) (cond-true (eqb x.code x.code) 1 0 (eq-eqb x.code x.code refl)) (cond-true (eqb (get_or c j b).code x.code) 1 0 (eq-eqb (get_or c j b).code x.code (sym e))) one (once x)
  where
    two : (m p q r : ℕ) → m ≡ p + q → p ≡ 1 → r ≡ 1 → r ≤ q → m ≤ 1 → ⊥
    two m p q r e f g h k = omega arith
codes_differ (x ∷ c) (suc i) (suc j) a b once l n e = codes_differ c i j a b (λ k. at_most_tail k x c (once k)) (omega arith) (omega arith) e

pub code_range : (l : Lit) (n : ℕ) → variable_of l < n → l.code < 2 * n
code_range l n h = omega arith

-- a literal of a clause has its watch list
pub code_within : (n : ℕ) (watched : List (List ClauseId)) (c : List Lit) (i : ℕ) (a : Lit) → length watched ≡ 2 * n → IsInRange n c → i < length c → a ≡ get_or c i a → a.code < length watched
code_within n watched c i a e range h f =
    let r : a.code < 2 * n = code_range a n (subst (λ (l : Lit). variable_of l < n) (sym f) (All-get_or (λ (l : Lit). variable_of l < n) c i a h range)) in
    omega arith

-- a watch list that was read
pub list_read : (watched : List (List ClauseId)) (d : ℕ) (ids r : List ClauseId) → ids ≡ r → r ≡ get_or watched d r → d < length watched → ids ≡ get_or watched d []
list_read watched d ids r e f h = e ∙ f ∙ get_or_default watched d r [] h

-- a watched literal and another swapped

swapped_first : (n a b d at first second : ℕ) → (a ≡ b → ⊥)
    → cond (eqb n d) (Some at) (cond (eqb b d) (Some second) None) ≡ cond (eqb n d) (Some at) (cond (eqb a d) None (cond (eqb a d) (Some first) (cond (eqb b d) (Some second) None)))
swapped_first n a b d at first second h = go (cases_Bool (eqb a d)) where
  go : (eqb a d ≡ true) ⊎ (eqb a d ≡ false) → cond (eqb n d) (Some at) (cond (eqb b d) (Some second) None) ≡ cond (eqb n d) (Some at) (cond (eqb a d) None (cond (eqb a d) (Some first) (cond (eqb b d) (Some second) None)))
  go (inl t) =
      let f : eqb b d ≡ false = ne_eqb b d (λ e. h (eqb-true a d t ∙ sym e)) in
      rw (t, f) refl
  go (inr f) = rw f refl

swapped_second : (n a b d at first second : ℕ) → (a ≡ b → ⊥) → (a ≡ n → ⊥)
    → cond (eqb a d) (Some first) (cond (eqb n d) (Some at) None) ≡ cond (eqb n d) (Some at) (cond (eqb b d) None (cond (eqb a d) (Some first) (cond (eqb b d) (Some second) None)))
swapped_second n a b d at first second h k = go (cases_Bool (eqb a d)) (cases_Bool (eqb b d)) where
  go : (eqb a d ≡ true) ⊎ (eqb a d ≡ false) → (eqb b d ≡ true) ⊎ (eqb b d ≡ false)
      → cond (eqb a d) (Some first) (cond (eqb n d) (Some at) None) ≡ cond (eqb n d) (Some at) (cond (eqb b d) None (cond (eqb a d) (Some first) (cond (eqb b d) (Some second) None)))
  go (inl t) u =
      let f : eqb b d ≡ false = ne_eqb b d (λ e. h (eqb-true a d t ∙ sym e)) in
      let g : eqb n d ≡ false = ne_eqb n d (λ e. k (eqb-true a d t ∙ sym e)) in
      rw (t, g, f) refl
  go (inr f) (inl t) = rw (f, t) refl
  go (inr f) (inr g) = rw (f, g) refl

pub swapped_says : (c : List Lit) (from to first second at d : ℕ) (x : Lit) → from < 2 → 2 ≤ to → to < length c → NoneTwice c
    → position_in (swap c from to) (cond (eqb from 0) at first) (cond (eqb from 0) second at) d
    ≡ says_swapped (get_or c from x).code (get_or c to x).code at d (position_in c first second d)
swapped_says [] from to first second at d x f t w once = absurd (omega arith)
swapped_says (a ∷ []) from to first second at d x f t w once = absurd (omega arith)
swapped_says (a ∷ b ∷ ls) from zero first second at d x f t w once = absurd (omega arith)
swapped_says (a ∷ b ∷ ls) from (suc zero) first second at d x f t w once = absurd (omega arith)
swapped_says (a ∷ b ∷ ls) zero (suc (suc j)) first second at d x f t w once =
    ap (λ (l : Lit). cond (eqb l.code d) (Some at) (cond (eqb b.code d) (Some second) None)) (get_or_default ls j a x (omega arith))
    ∙ swapped_first (get_or ls j x).code a.code b.code d at first second (codes_differ (a ∷ b ∷ ls) 0 1 a b once (omega arith) (omega arith))
swapped_says (a ∷ b ∷ ls) (suc zero) (suc (suc j)) first second at d x f t w once =
    ap (λ (l : Lit). cond (eqb a.code d) (Some first) (cond (eqb l.code d) (Some at) None)) (get_or_default ls j a x (omega arith))
    ∙ swapped_second (get_or ls j x).code a.code b.code d at first second (codes_differ (a ∷ b ∷ ls) 0 1 a b once (omega arith) (omega arith))
    (codes_differ (a ∷ b ∷ ls) 0 (suc (suc j)) a x once (omega arith) w)
swapped_says (a ∷ b ∷ ls) (suc (suc i)) (suc (suc j)) first second at d x f t w once = absurd (omega arith)

-- what a clause says of its watched literals, and of another one

pub says_from : (c : List Lit) (from first second : ℕ) (x : Lit) → from < 2 → 2 ≤ length c → NoneTwice c → position_in c first second (get_or c from x).code ≡ Some (cond (eqb from 0) first second)
says_from [] from first second x f l once = absurd (omega arith)
says_from (a ∷ []) from first second x f l once = absurd (omega arith)
says_from (a ∷ b ∷ ls) zero first second x f l once = cond-true (eqb a.code a.code) (Some first) (cond (eqb b.code a.code) (Some second) None) (eq-eqb a.code a.code refl)
says_from (a ∷ b ∷ ls) (suc zero) first second x f l once =
    cond-false (eqb a.code b.code) (Some first) (cond (eqb b.code b.code) (Some second) None) (ne_eqb a.code b.code (codes_differ (a ∷ b ∷ ls) 0 1 a b once (omega arith) (omega arith)))
    ∙ cond-true (eqb b.code b.code) (Some second) None (eq-eqb b.code b.code refl)
says_from (a ∷ b ∷ ls) (suc (suc i)) first second x f l once = absurd (omega arith)

pub says_not : (c : List Lit) (to first second : ℕ) (x : Lit) → 2 ≤ to → to < length c → NoneTwice c → position_in c first second (get_or c to x).code ≡ None
says_not [] to first second x t w once = absurd (omega arith)
says_not (a ∷ []) to first second x t w once = absurd (omega arith)
says_not (a ∷ b ∷ ls) to first second x t w once =
    cond-false (eqb a.code (get_or (a ∷ b ∷ ls) to x).code) (Some first) (cond (eqb b.code (get_or (a ∷ b ∷ ls) to x).code) (Some second) None)
    (ne_eqb a.code (get_or (a ∷ b ∷ ls) to x).code (codes_differ (a ∷ b ∷ ls) 0 to a x once (omega arith) w))
    ∙ cond-false (eqb b.code (get_or (a ∷ b ∷ ls) to x).code) (Some second) None (ne_eqb b.code (get_or (a ∷ b ∷ ls) to x).code (codes_differ (a ∷ b ∷ ls) 1 to b x once (omega arith) w))

-- swapping literals keeps what a clause has to be

-- one where the literal is this one
abbrev is : Lit → Lit → ℕ
is l x = cond (eqb x.code l.code) 1 0

times_swap : (l : Lit) (c : List Lit) (i j : ℕ) → i < length c → j < length c → times l (swap c i j) ≡ times l c
times_swap l [] i j h k = absurd (omega arith)
times_swap l (a ∷ ls) i j h k =
    back _ _ _ _ _ _ (sum_by-set (is l) (a ∷ ls) i (get_or (a ∷ ls) j a) a h)
    (sum_by-set (is l) (set (a ∷ ls) i (get_or (a ∷ ls) j a)) j (get_or (a ∷ ls) i a) a (let e : length (set (a ∷ ls) i (get_or (a ∷ ls) j a)) ≡ length (a ∷ ls) = length-set (a ∷ ls) i (get_or (a ∷ ls) j a) in omega arith))
    (ap (is l) (got (cases_eq j i)))
  where
    back : (p q r u v w : ℕ) → p + u ≡ q + v → r + w ≡ p + u → w ≡ v → r ≡ q
    back p q r u v w e f g = omega arith

    got : (j ≡ i) ⊎ (j ≡ i → ⊥) → get_or (set (a ∷ ls) i (get_or (a ∷ ls) j a)) j a ≡ get_or (a ∷ ls) j a
    got (inl e) = ap (λ m. get_or (set (a ∷ ls) i (get_or (a ∷ ls) j a)) m a) e ∙ get_or-set_same (a ∷ ls) i (get_or (a ∷ ls) j a) a h
    got (inr n) = get_or-set_other (a ∷ ls) i j (get_or (a ∷ ls) j a) a n

pub kept_swap : (n : ℕ) (c : List Lit) (i j : ℕ) → i < length c → j < length c → IsKept n c → IsKept n (swap c i j)
kept_swap n c i j h k e = record {
  two = λ z. let f : length (swap c i j) ≡ length c = length-swap c i j in let g : 2 ≤ length c = e.two (omega arith) in omega arith;
  once = λ l. subst (λ m. m ≤ 1) (sym (times_swap l c i j h k)) (e.once l);
  range = range_swap c (λ l. variable_of l < n) i j h k e.range;
} where
  range_swap : (c : List Lit) (P : Lit → Type 0) (i j : ℕ) → i < length c → j < length c → All P c → All P (swap c i j)
  range_swap [] P i j h k r = r
  range_swap (a ∷ ls) P i j h k r =
      All-set P (set (a ∷ ls) i (get_or (a ∷ ls) j a)) j (get_or (a ∷ ls) i a) (All-get_or P (a ∷ ls) i a h r)
      (All-set P (a ∷ ls) i (get_or (a ∷ ls) j a) (All-get_or P (a ∷ ls) j a k r) r)
