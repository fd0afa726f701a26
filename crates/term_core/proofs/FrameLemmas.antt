-- Frames: variables of a frame in parts, and tests at all nodes.
use Rattle.std.proofs.Common.{◌≡◌, ℕ, zero, suc, ◌+◌, ◌-◌, ◌<◌, ◌≤◌, Bool, true, false, ◌&&◌, ◌||◌, cond, List, [], ◌∷◌, ◌++◌, length, set, Some, refl, sym, ap, ◌∙◌, subst, arith}
use Rattle.std.specs.Prelude.{nat_lt, nat_eq, slice_get}
use Rattle.std.specs.List.{list_all, list_any, All, Contains}
use Rattle.std.proofs.lemmas.Option.{slice_get_within, slice_get-get_or, get_or_from_slice_get}
use Rattle.term_core.specs.Meaning.{holds_at}

-- a test that is the same at each node is the same at all or at one
pub list_all_same : {X : Type 0} (p q : X → Bool) (ns : List X) → ((n : X) → p n ≡ q n) → list_all p ns ≡ list_all q ns
list_all_same p q [] same = refl
list_all_same p q (n ∷ ns) same = ap (λ b. b && list_all p ns) (same n) ∙ ap (λ b. q n && b) (list_all_same p q ns same)

pub list_any_same : {X : Type 0} (p q : X → Bool) (ns : List X) → ((n : X) → p n ≡ q n) → list_any p ns ≡ list_any q ns
list_any_same p q [] same = refl
list_any_same p q (n ∷ ns) same = ap (λ b. b || list_any p ns) (same n) ∙ ap (λ b. q n || b) (list_any_same p q ns same)

pub holds_same : (all : Bool) (p q : ℕ → Bool) (ns : List ℕ) → ((n : ℕ) → p n ≡ q n) → holds_at all p ns ≡ holds_at all q ns
holds_same true p q ns same = list_all_same p q ns same
holds_same false p q ns same = list_any_same p q ns same

-- a variable of the first part of a frame, and one past it
pub get_first : {X : Type 0} (xs ys : List X) (k : ℕ) → k < length xs → slice_get (xs ++ ys) k ≡ slice_get xs k
get_first [] ys k h = absurd (omega (arith, h))
get_first (x ∷ xs) ys zero h = refl
get_first (x ∷ xs) ys (suc k) h = get_first xs ys k (omega (arith, h))

pub get_past : {X : Type 0} (xs ys : List X) (k : ℕ) → length xs ≤ k → slice_get (xs ++ ys) k ≡ slice_get ys (k - length xs)
get_past [] ys k h = ap (slice_get ys) (omega arith)
get_past (x ∷ xs) ys zero h = absurd (omega (arith, h))
get_past (x ∷ xs) ys (suc k) h = get_past xs ys k (omega (arith, h)) ∙ ap (slice_get ys) (omega arith)

-- a variable keeps its node where others come in between
pub get_around : (front more inner : List ℕ) (k : ℕ) → slice_get (front ++ (more ++ inner)) (cond (nat_lt k (length front)) k (k + length more)) ≡ slice_get (front ++ inner) k
get_around front more inner k = go (nat_lt k (length front)) refl
  where
    go : (b : Bool) → nat_lt k (length front) ≡ b → slice_get (front ++ (more ++ inner)) (cond b k (k + length more)) ≡ slice_get (front ++ inner) k
    go true was = let h : k < length front = grind (arith, was) in get_first front (more ++ inner) k h ∙ sym (get_first front inner k h)
    go false was =
        let h : length front ≤ k = grind (arith, was) in
        get_past front (more ++ inner) (k + length more) (omega (arith, h))
        ∙ get_past more inner (k + length more - length front) (omega (arith, h))
        ∙ ap (slice_get inner) (omega (arith, h))
        ∙ sym (get_past front inner k h)

-- the node of a variable after another node came in its place
pub get_set_same : {X : Type 0} (xs : List X) (k : ℕ) (n : X) → k < length xs → slice_get (set xs k n) k ≡ Some n
get_set_same [] k n h = absurd (omega (arith, h))
get_set_same (x ∷ xs) zero n h = refl
get_set_same (x ∷ xs) (suc k) n h = get_set_same xs k n (omega (arith, h))

pub get_set_other : {X : Type 0} (xs : List X) (k j : ℕ) (n : X) → nat_eq j k ≡ false → slice_get (set xs k n) j ≡ slice_get xs j
get_set_other [] k j n h = refl
get_set_other (x ∷ xs) zero zero n h = cc
get_set_other (x ∷ xs) zero (suc j) n h = refl
get_set_other (x ∷ xs) (suc k) zero n h = refl
get_set_other (x ∷ xs) (suc k) (suc j) n h = get_set_other xs k j n (grind (arith, h))

pub length-set_node : (xs : List ℕ) (k n : ℕ) → length (set xs k n) ≡ length xs
length-set_node [] k n = refl
length-set_node (x ∷ xs) zero n = refl
length-set_node (x ∷ xs) (suc k) n = ap suc (length-set_node xs k n)

pub get_beside : (xs ys : List ℕ) (k j n : ℕ) → nat_eq j k ≡ false → slice_get (xs ++ ys) j ≡ slice_get (set xs k n ++ ys) j
get_beside xs ys k j n other = go (nat_lt j (length xs)) refl
  where
    same : length (set xs k n) ≡ length xs
    same = length-set_node xs k n

    go : (b : Bool) → nat_lt j (length xs) ≡ b → slice_get (xs ++ ys) j ≡ slice_get (set xs k n ++ ys) j
    go true was =
        let h : j < length xs = grind (arith, was) in
        get_first xs ys j h ∙ sym (get_set_other xs k j n other) ∙ sym (get_first (set xs k n) ys j (subst (λ m. j < m) (sym same) h))
    go false was =
        let h : length xs ≤ j = grind (arith, was) in
        get_past xs ys j h ∙ ap (λ m. slice_get ys (j - m)) (sym same) ∙ sym (get_past (set xs k n) ys j (subst (λ m. m ≤ j) (sym same) h))

pub get_replaced : (xs ys : List ℕ) (k n : ℕ) → k < length xs → slice_get (set xs k n ++ ys) k ≡ Some n
get_replaced xs ys k n h = get_first (set xs k n) ys k (subst (λ m. k < m) (sym (length-set_node xs k n)) h) ∙ get_set_same xs k n h

pub length-one_more : (xs : List ℕ) (n : ℕ) → length (xs ++ n ∷ []) ≡ suc (length xs)
length-one_more [] n = refl
length-one_more (x ∷ xs) n = ap suc (length-one_more xs n)

pub append_nothing : (xs : List ℕ) → xs ++ [] ≡ xs
append_nothing [] = refl
append_nothing (x ∷ xs) = ap (λ ys. x ∷ ys) (append_nothing xs)

-- a fact of each element is one of that at a place
pub each_at : {X : Type 0} (P : X → Type 0) (xs : List X) (k : ℕ) (x : X) → All P xs → slice_get xs k ≡ Some x → P x
each_at P xs k x all e = subst P (get_or_from_slice_get xs k x x e) (all k x (slice_get_within xs k x e))

pub no_each : {X : Type 0} (P : X → Type 0) → All P []
no_each P k d less = absurd (omega (arith, less))

pub one_more_each : {X : Type 0} (P : X → Type 0) (x : X) (xs : List X) → P x → All P xs → All P (x ∷ xs)
one_more_each P x xs first rest zero d less = first
one_more_each P x xs first rest (suc k) d less = rest k d (omega (arith, less))

-- an element of a list stands at a place of it
pub stands_in : {X : Type 0} (xs : List X) (k : ℕ) (x : X) → slice_get xs k ≡ Some x → Contains xs x
stands_in xs k x e = (k, slice_get_within xs k x e, get_or_from_slice_get xs k x x e)

pub place_in_list : {X : Type 0} (xs : List X) (x : X) → Contains xs x → (k : ℕ) × (slice_get xs k ≡ Some x)
place_in_list xs x c = (c.0, slice_get-get_or xs c.0 x c.1 ∙ ap Some c.2)
