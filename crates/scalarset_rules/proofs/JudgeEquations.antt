-- The first of several breaks.
use Rattle.std.proofs.Common.{◌≡◌, ℕ, zero, suc, ◌+◌, ◌<◌, length, drop, Bool, true, false, not, ◌&&◌, ◌||◌, List, [], ◌∷◌, ◌++◌, map, Option, None, Some, refl, sym, ap, ◌∙◌, subst, arith}
use Rattle.std.specs.Prelude.{nat_eq, nat_lt, if◌then◌else◌, cond, slice_index_or}
use Rattle.std.specs.List.{flat_map, filter}
use Rattle.scalarset_rules.specs.declared.shape.Access.{Access as HeldAccess}
use Rattle.scalarset_rules.specs.Accesses.{Binder, Access}
use Rattle.scalarset_rules.specs.Rules.{Break, is_before, sooner, first_break, write_breaks, is_deeper, breaks_of_write, place_of_write, loop_breaks}
use Rattle.scalarset_rules.specs.Seen.{seen_access, pair_breaks, if_near, first_pair, first_placed, first_of_write, first_of_writes, loop_seen}

-- The order of places and rules

abbrev pub comes : ℕ → ℕ → ℕ → ℕ → ℕ → ℕ → Bool
comes l c r l' c' r' = (nat_lt l l' || (nat_eq l l' && nat_lt c c')) || ((nat_eq l l' && nat_eq c c') && nat_lt r r')

-- one number first, and then the rest
abbrev pub lex : ℕ → ℕ → Bool → Bool
lex a b rest = nat_lt a b || (nat_eq a b && rest)

nested : (a e c f r : Bool) → ((a || (e && c)) || ((e && f) && r)) ≡ (a || (e && (c || (f && r))))
nested true e c f r = refl
nested false true c f r = refl
nested false false c f r = refl

comes_is : (l c r l' c' r' : ℕ) → comes l c r l' c' r' ≡ lex l l' (lex c c' (nat_lt r r'))
comes_is l c r l' c' r' = nested (nat_lt l l') (nat_eq l l') (nat_lt c c') (nat_eq c c') (nat_lt r r')

lex_on : (a b c : ℕ) (p q s : Bool) → lex a b p ≡ true → lex b c q ≡ true → (p ≡ true → q ≡ true → s ≡ true) → lex a c s ≡ true
lex_on a b c true true s hp hq h = let hs : s ≡ true = h refl refl in ap (lex a c) hs ∙ both_true (nat_lt a c) (nat_eq a c) (grind (arith, hp, hq))
  where
    both_true : (x y : Bool) → (x || y) ≡ true → (x || (y && true)) ≡ true
    both_true true y e = refl
    both_true false true e = refl
    both_true false false e = e
lex_on a b c true false s hp hq h = less (grind (arith, hp, hq))
  where
    less : nat_lt a c ≡ true → lex a c s ≡ true
    less e = ap (λ x. x || (nat_eq a c && s)) e
lex_on a b c false q s hp hq h = less (first q hq)
  where
    first : (q : Bool) → lex b c q ≡ true → nat_lt a c ≡ true
    first true e = grind (arith, hp, e)
    first false e = grind (arith, hp, e)

    less : nat_lt a c ≡ true → lex a c s ≡ true
    less e = ap (λ x. x || (nat_eq a c && s)) e

lex_not : (a b c : ℕ) (p q s : Bool) → lex a b p ≡ false → lex b c q ≡ false → (p ≡ false → q ≡ false → s ≡ false) → lex a c s ≡ false
lex_not a b c false false s hp hq h = let hs : s ≡ false = h refl refl in ap (lex a c) hs ∙ no_less (nat_lt a c) (nat_eq a c) (grind (arith, hp, hq))
  where
    no_less : (x y : Bool) → x ≡ false → (x || (y && false)) ≡ false
    no_less true y e = e
    no_less false true e = refl
    no_less false false e = refl
lex_not a b c true q s hp hq h = more (later q hq)
  where
    later : (q : Bool) → lex b c q ≡ false → nat_lt c a ≡ true
    later true e = grind (arith, hp, e)
    later false e = grind (arith, hp, e)

    more : nat_lt c a ≡ true → lex a c s ≡ false
    more e = none (nat_lt a c) (nat_eq a c) (grind (arith, e)) (grind (arith, e))
      where
        none : (x y : Bool) → x ≡ false → y ≡ false → (x || (y && s)) ≡ false
        none true y e f = e
        none false true e f = absurd (no_true f)
          where
            no_true : true ≡ false → ⊥
            no_true e = cc
        none false false e f = refl
lex_not a b c false true s hp hq h = more (grind (arith, hp, hq))
  where
    more : nat_lt c a ≡ true → lex a c s ≡ false
    more e = none (nat_lt a c) (nat_eq a c) (grind (arith, e)) (grind (arith, e))
      where
        none : (x y : Bool) → x ≡ false → y ≡ false → (x || (y && s)) ≡ false
        none true y e f = e
        none false true e f = absurd (no_true f)
          where
            no_true : true ≡ false → ⊥
            no_true e = cc
        none false false e f = refl

less_on : (a b c : ℕ) → nat_lt a b ≡ true → nat_lt b c ≡ true → nat_lt a c ≡ true
less_on a b c p q = grind (arith, p, q)

less_not : (a b c : ℕ) → nat_lt a b ≡ false → nat_lt b c ≡ false → nat_lt a c ≡ false
less_not a b c p q = grind (arith, p, q)

comes_on : (a b c d e f g h i : ℕ) → comes a b c d e f ≡ true → comes d e f g h i ≡ true → comes a b c g h i ≡ true
comes_on a b c d e f g h i p q =
    comes_is a b c g h i ∙ lex_on a d g (lex b e (nat_lt c f)) (lex e h (nat_lt f i)) (lex b h (nat_lt c i)) (sym (comes_is a b c d e f) ∙ p) (sym (comes_is d e f g h i) ∙ q)
    (λ x y. lex_on b e h (nat_lt c f) (nat_lt f i) (nat_lt c i) x y (less_on c f i))

comes_not : (a b c d e f g h i : ℕ) → comes a b c d e f ≡ false → comes d e f g h i ≡ false → comes a b c g h i ≡ false
comes_not a b c d e f g h i p q =
    comes_is a b c g h i ∙ lex_not a d g (lex b e (nat_lt c f)) (lex e h (nat_lt f i)) (lex b h (nat_lt c i)) (sym (comes_is a b c d e f) ∙ p) (sym (comes_is d e f g h i) ∙ q)
    (λ x y. lex_not b e h (nat_lt c f) (nat_lt f i) (nat_lt c i) x y (less_not c f i))

before_on : (x y z : Break) → is_before z y ≡ true → is_before y x ≡ true → is_before z x ≡ true
before_on x y z p q = comes_on z.at.line z.at.column z.rule y.at.line y.at.column y.rule x.at.line x.at.column x.rule p q

before_not : (x y z : Break) → is_before z y ≡ false → is_before y x ≡ false → is_before z x ≡ false
before_not x y z p q = comes_not z.at.line z.at.column z.rule y.at.line y.at.column y.rule x.at.line x.at.column x.rule p q

three : (x y z : Break) → sooner (Some x) (sooner (Some y) (Some z)) ≡ sooner (sooner (Some x) (Some y)) (Some z)
three x y z = go (is_before z y) refl (is_before y x) refl
  where
    go : (s : Bool) → is_before z y ≡ s → (t : Bool) → is_before y x ≡ t → sooner (Some x) (if s then Some z else Some y) ≡ sooner (if t then Some y else Some x) (Some z)
    go true zy true yx = ap (λ b. if b then Some z else Some x) (before_on x y z zy yx) ∙ sym (ap (λ b. if b then Some z else Some y) zy)
    go true zy false yx = refl
    go false zy true yx = ap (λ b. if b then Some y else Some x) yx ∙ sym (ap (λ b. if b then Some z else Some y) zy)
    go false zy false yx = ap (λ b. if b then Some y else Some x) yx ∙ sym (ap (λ b. if b then Some z else Some x) (before_not x y z zy yx))

pub sooner_none : (a : Option Break) → sooner a None ≡ a
sooner_none None = refl
sooner_none (Some x) = refl

pub sooner_on : (a b c : Option Break) → sooner (sooner a b) c ≡ sooner a (sooner b c)
sooner_on None b c = refl
sooner_on (Some x) None c = refl
sooner_on (Some x) (Some y) None = sooner_none (sooner (Some x) (Some y))
sooner_on (Some x) (Some y) (Some z) = sym (three x y z)

pub first_joined : (xs ys : List Break) → first_break (xs ++ ys) ≡ sooner (first_break xs) (first_break ys)
first_joined [] ys = refl
first_joined (x ∷ xs) ys = ap (sooner (Some x)) (first_joined xs ys) ∙ sym (sooner_on (Some x) (first_break xs) (first_break ys))

-- A loop

abbrev pub near_ones : Binder → List Access → List Access
near_ones v all = filter (λ (a : Access). not (is_deeper v.depth a.shape.owner)) all

pairs_are : (v : Binder) (k : ℕ) (w : Access) (all : List HeldAccess) → first_pair v k w all ≡ first_break (flat_map (pair_breaks v k w) (near_ones v (map seen_access all)))
pairs_are v k w [] = refl
pairs_are v k w (a ∷ all) = go (is_deeper v.depth (seen_access a).shape.owner) (pairs_are v k w all)
  where
    rest : List Access
    rest = near_ones v (map seen_access all)

    go : (b : Bool) → first_pair v k w all ≡ first_break (flat_map (pair_breaks v k w) (near_ones v (map seen_access all))) → sooner (if b then None else first_break (pair_breaks v k w (seen_access a))) (first_pair v k w all) ≡ first_break (flat_map (pair_breaks v k w) (cond (not b) (seen_access a ∷ near_ones v (map seen_access all)) (near_ones v (map seen_access all))))
    go true again = again
    go false again = ap (sooner (first_break (pair_breaks v k w (seen_access a)))) again ∙ sym (first_joined (pair_breaks v k w (seen_access a)) (flat_map (pair_breaks v k w) (near_ones v (map seen_access all))))

write_is : (v : Binder) (all : List HeldAccess) (w : Access) → first_of_write v all w ≡ first_break (breaks_of_write v (near_ones v (map seen_access all)) w)
write_is v all w = go w.write (place_of_write v w)
  where
    go : (b : Bool) (o : Option ℕ) → (if b then first_placed v all w o else None) ≡ first_break (if b then write_breaks v (near_ones v (map seen_access all)) w o else [])
    go false o = refl
    go true None = refl
    go true (Some k) = pairs_are v k w all

writes_are : (v : Binder) (all ws : List HeldAccess) → first_of_writes v all ws ≡ first_break (flat_map (breaks_of_write v (near_ones v (map seen_access all))) (near_ones v (map seen_access ws)))
writes_are v all [] = refl
writes_are v all (w ∷ ws) = go (is_deeper v.depth (seen_access w).shape.owner) (writes_are v all ws)
  where
    go : (b : Bool) → first_of_writes v all ws ≡ first_break (flat_map (breaks_of_write v (near_ones v (map seen_access all))) (near_ones v (map seen_access ws))) → sooner (if b then None else first_of_write v all (seen_access w)) (first_of_writes v all ws) ≡ first_break (flat_map (breaks_of_write v (near_ones v (map seen_access all))) (cond (not b) (seen_access w ∷ near_ones v (map seen_access ws)) (near_ones v (map seen_access ws))))
    go true again = again
    go false again =
        ap (λ x. sooner x (first_of_writes v all ws)) (write_is v all (seen_access w)) ∙ ap (sooner (first_break (breaks_of_write v (near_ones v (map seen_access all)) (seen_access w)))) again
        ∙ sym (first_joined (breaks_of_write v (near_ones v (map seen_access all)) (seen_access w)) (flat_map (breaks_of_write v (near_ones v (map seen_access all))) (near_ones v (map seen_access ws))))

pub loop_is : (v : Binder) (all : List HeldAccess) → first_of_writes v all all ≡ first_break (loop_breaks (loop_seen v all))
loop_is v all = writes_are v all all

-- a list from an item on
pub drop_item : {A : Type 0} (xs : List A) (i : ℕ) (a : A) → i < length xs → a ≡ slice_index_or xs i a → drop i xs ≡ a ∷ drop (i + 1) xs
drop_item [] i a low e = absurd (omega (arith, low))
drop_item (x ∷ xs) zero a low e = ap (λ y. y ∷ xs) (sym e)
drop_item (x ∷ xs) (suc i) a low e =
    let h : suc (i + 1) ≡ suc i + 1 = omega arith in
    subst (λ k. drop i xs ≡ a ∷ drop k (x ∷ xs)) h (drop_item xs i a (omega (arith, low)) e)

pub pair_step : (v : Binder) (k : ℕ) (w : Access) (all : List HeldAccess) (i : ℕ) (a : HeldAccess) (first one now : Option Break)
    → i < length all → a ≡ slice_index_or all i a → now ≡ sooner first one → one ≡ if_near v (seen_access a) (first_break (pair_breaks v k w (seen_access a)))
    → sooner first (first_pair v k w (drop i all)) ≡ first_pair v k w all → sooner now (first_pair v k w (drop (i + 1) all)) ≡ first_pair v k w all
pair_step v k w all i a first one now low item step is before =
    ap (λ x. sooner x (first_pair v k w (drop (i + 1) all))) (step ∙ ap (sooner first) is)
    ∙ sooner_on first (if_near v (seen_access a) (first_break (pair_breaks v k w (seen_access a)))) (first_pair v k w (drop (i + 1) all))
    ∙ sym (ap (λ xs. sooner first (first_pair v k w xs)) (drop_item all i a low item)) ∙ before

pub write_step : (v : Binder) (all : List HeldAccess) (i : ℕ) (a : HeldAccess) (first one now : Option Break)
    → i < length all → a ≡ slice_index_or all i a → now ≡ sooner first one → one ≡ if_near v (seen_access a) (first_of_write v all (seen_access a))
    → sooner first (first_of_writes v all (drop i all)) ≡ first_of_writes v all all → sooner now (first_of_writes v all (drop (i + 1) all)) ≡ first_of_writes v all all
write_step v all i a first one now low item step is before =
    ap (λ x. sooner x (first_of_writes v all (drop (i + 1) all))) (step ∙ ap (sooner first) is)
    ∙ sooner_on first (if_near v (seen_access a) (first_of_write v all (seen_access a))) (first_of_writes v all (drop (i + 1) all))
    ∙ sym (ap (λ xs. sooner first (first_of_writes v all xs)) (drop_item all i a low item)) ∙ before

pub ruleset breaks = (sooner_none, sooner_on, loop_is)
