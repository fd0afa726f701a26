-- Sets of values: what is added to them, and what passes a test among them.
use Rattle.std.proofs.Common.{◌≡◌, ◌⊎◌, inl, inr, Bool, true, false, not, ◌&&◌, ◌||◌, List, [], ◌∷◌, ◌++◌, refl, sym, ap, ◌∙◌, arith}
use Rattle.std.specs.Prelude.{nat_eq, ℤ, pos, negsuc}
use Rattle.std.specs.List.{list_any}
use Rattle.std.proofs.lemmas.Bool.{and_parts, or_cases}
use Rattle.term_core.specs.Values.{same_truth, same_number}
use Rattle.other_abstract.specs.declared.node.AbsNode.{AbsNode}
use Rattle.other_abstract.specs.declared.node.AbsNode.TheVariants.{Kept, Fired, Other}
use Rattle.other_abstract.specs.declared.value.AbsValue.{AbsValue}
use Rattle.other_abstract.specs.declared.value.AbsValue.TheVariants.{Undefined, Truth, Number, Member, Node}
use Rattle.other_abstract.specs.Windows.{same_node, same_value, each_once}
use Rattle.other_abstract.proofs.TestLemmas.{any_append, or_first, or_second, and_both}

same_truth_is : (a b : Bool) → same_truth a b ≡ true → a ≡ b
same_truth_is true true h = refl
same_truth_is false false h = refl
same_truth_is true false h = cc
same_truth_is false true h = cc

same_number_is : (a b : ℤ) → same_number a b ≡ true → a ≡ b
same_number_is (pos a) (pos b) h = ap pos (let e : a ≡ b = grind (arith, h) in e)
same_number_is (negsuc a) (negsuc b) h = ap negsuc (let e : a ≡ b = grind (arith, h) in e)
same_number_is (pos a) (negsuc b) h = cc
same_number_is (negsuc a) (pos b) h = cc

pub same_node_is : (x y : AbsNode) → same_node x y ≡ true → x ≡ y
same_node_is (Kept k) (Kept l) h = ap Kept (let e : k ≡ l = grind (arith, h) in e)
same_node_is (Fired k) (Fired l) h = ap Fired (let e : k ≡ l = grind (arith, h) in e)
same_node_is Other Other h = refl
same_node_is x y h = absurd cc

-- two values that are the same are one
pub same_is : (x y : AbsValue) → same_value x y ≡ true → x ≡ y
same_is Undefined Undefined h = refl
same_is (Truth a) (Truth b) h = ap Truth (same_truth_is a b h)
same_is (Number a) (Number b) h = ap Number (same_number_is a b h)
same_is (Member k a) (Member l b) h =
    let p = and_parts (nat_eq k l) (nat_eq a b) h in
    let e : k ≡ l = (let f : nat_eq k l ≡ true = p.0 in grind (arith, f)) in
    let g : a ≡ b = (let f : nat_eq a b ≡ true = p.1 in grind (arith, f)) in
    ap (λ n. Member n a) e ∙ ap (Member l) g
same_is (Node a) (Node b) h = ap Node (same_node_is a b h)
same_is x y h = absurd cc

-- a test that a value of the list passes
held_passes : (p : AbsValue → Bool) (x : AbsValue) (xs : List AbsValue) → list_any (same_value x) xs ≡ true → p x ≡ true → list_any p xs ≡ true
held_passes p x [] h e = cc
held_passes p x (y ∷ ys) h e = go (or_cases (same_value x y) (list_any (same_value x) ys) h) (λ s. held_passes p x ys s e)
  where
    go : (same_value x y ≡ true) ⊎ (list_any (same_value x) ys ≡ true) → (list_any (same_value x) ys ≡ true → list_any p ys ≡ true) → (p y || list_any p ys) ≡ true
    go (inl s) rest = or_first (p y) (list_any p ys) (ap p (sym (same_is x y s)) ∙ e)
    go (inr s) rest = or_second (p y) (list_any p ys) (rest s)

or_held : (a b : Bool) → (b ≡ true → a ≡ true) → a ≡ (a || b)
or_held true b h = refl
or_held false true h = h refl
or_held false false h = refl

-- adding a value that is there changes nothing
pub add_held : (p : AbsValue → Bool) (x : AbsValue) (xs : List AbsValue) → list_any (same_value x) xs ≡ true → list_any p xs ≡ (list_any p xs || p x)
add_held p x xs h = or_held (list_any p xs) (p x) (λ e. held_passes p x xs h e)

or_false : (b : Bool) → (b || false) ≡ b
or_false true = refl
or_false false = refl

pub add_new : (p : AbsValue → Bool) (x : AbsValue) (xs : List AbsValue) → list_any p (xs ++ x ∷ []) ≡ (list_any p xs || p x)
add_new p x xs = any_append p xs (x ∷ []) ∙ ap (λ b. list_any p xs || b) (or_false (p x))

same_truth_self : (a : Bool) → same_truth a a ≡ true
same_truth_self true = refl
same_truth_self false = refl

same_number_self : (a : ℤ) → same_number a a ≡ true
same_number_self (pos a) = grind arith
same_number_self (negsuc a) = grind arith

pub same_node_self : (x : AbsNode) → same_node x x ≡ true
same_node_self (Kept k) = grind arith
same_node_self (Fired k) = grind arith
same_node_self Other = refl

pub same_self : (x : AbsValue) → same_value x x ≡ true
same_self Undefined = refl
same_self (Truth a) = same_truth_self a
same_self (Number a) = same_number_self a
same_self (Member k a) = let e : nat_eq k k ≡ true = grind arith in let f : nat_eq a a ≡ true = grind arith in and_both (nat_eq k k) (nat_eq a a) e f
same_self (Node a) = same_node_self a

flips : (x y : AbsValue) → same_value x y ≡ false → same_value y x ≡ false
flips x y h = go (same_value y x) refl
  where
    go : (b : Bool) → same_value y x ≡ b → same_value y x ≡ false
    go false was = was
    go true was = absurd (let e : same_value x y ≡ true = ap (λ z. same_value z y) (sym (same_is y x was)) ∙ same_self y in cc)

or_none : (a b : Bool) → (a || b) ≡ false → (a ≡ false) × (b ≡ false)
or_none true b h = cc
or_none false b h = (refl, h)

-- adding a value that is not there keeps each value once
pub push_once : (x : AbsValue) (xs : List AbsValue) → list_any (same_value x) xs ≡ false → each_once xs ≡ true → each_once (xs ++ x ∷ []) ≡ true
push_once x [] h d = refl
push_once x (y ∷ ys) h d =
    let p = or_none (same_value x y) (list_any (same_value x) ys) h in
    let q = and_parts (not (list_any (same_value y) ys)) (each_once ys) d in
    let e : list_any (same_value y) (ys ++ x ∷ []) ≡ list_any (same_value y) ys = add_new (same_value y) x ys ∙ ap (λ b. list_any (same_value y) ys || b) (flips x y p.0) ∙ or_false _ in
    ap (λ b. not b && each_once (ys ++ x ∷ [])) e ∙ and_both (not (list_any (same_value y) ys)) (each_once (ys ++ x ∷ [])) q.0 (push_once x ys p.1 q.1)

pub ruleset sets = (add_held, add_new, push_once)
