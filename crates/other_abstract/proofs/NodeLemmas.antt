-- Tests at all nodes and at one of them.
use Rattle.std.proofs.Common.{◌≡◌, ℕ, zero, suc, ◌+◌, ◌-◌, ◌<◌, ◌≤◌, Bool, true, false, not, ◌&&◌, ◌||◌, List, [], ◌∷◌, ◌++◌, length, Some, None, refl, sym, ap, ◌∙◌, arith}
use Rattle.std.specs.Prelude.{nat_eq, slice_get}
use Rattle.std.specs.List.{list_all, list_any}
use Rattle.std.proofs.lemmas.Bool.{and_parts}
use Rattle.term_core.specs.Nodes.{nodes, nodes_from, is_node}
use Rattle.term_core.specs.Meaning.{holds_at}
use Rattle.term_core.specs.Values.{same_truth}
use Rattle.other_abstract.specs.declared.node.AbsNode.{AbsNode}
use Rattle.other_abstract.specs.declared.node.AbsNode.TheVariants.{Kept, Fired, Other}
use Rattle.other_abstract.specs.Windows.{same_node}

pub node_is : (N n : ℕ) → 1 ≤ n → n ≤ N → is_node N n ≡ true
node_is N n a b = grind (arith, a, b)

pub not_not : (b : Bool) → not (not b) ≡ b
not_not true = refl
not_not false = refl

pub any_is : {X : Type 0} (p : X → Bool) (xs : List X) → list_any p xs ≡ not (list_all (λ x. not (p x)) xs)
any_is p [] = refl
any_is p (x ∷ xs) = go (p x) (any_is p xs)
  where
    go : (b : Bool) → list_any p xs ≡ not (list_all (λ x. not (p x)) xs) → (b || list_any p xs) ≡ not (not b && list_all (λ x. not (p x)) xs)
    go true e = refl
    go false e = e

all_from : (p : ℕ → Bool) (first count n : ℕ) → list_all p (nodes_from first count) ≡ true → first ≤ n → n < first + count → p n ≡ true
all_from p first zero n all low high = absurd (omega (arith, low, high))
all_from p first (suc count) n all low high = go (nat_eq n first) refl (λ l. all_from p (suc first) count n (and_parts _ _ all).1 l (omega (arith, high)))
  where
    go : (b : Bool) → nat_eq n first ≡ b → (suc first ≤ n → p n ≡ true) → p n ≡ true
    go true was rest = let e : n ≡ first = grind (arith, was) in ap p e ∙ (and_parts _ _ all).0
    go false was rest = let l : suc first ≤ n = grind (arith, was, low) in rest l

-- a node at which a test fails
pub record Fails (N : ℕ) (p : ℕ → Bool) : Type 0 where
  pub at : ℕ
  pub node : is_node N at ≡ true
  pub fails : p at ≡ false

pub record FailsFrom (p : ℕ → Bool) (first count : ℕ) : Type 0 where
  pub at : ℕ
  pub low : first ≤ at
  pub high : at < first + count
  pub fails : p at ≡ false

fails_from : (p : ℕ → Bool) (first count : ℕ) → list_all p (nodes_from first count) ≡ false → FailsFrom p first count
fails_from p first zero h = cc
fails_from p first (suc count) h = go (p first) refl (λ e. fails_from p (suc first) count e)
  where
    go : (b : Bool) → p first ≡ b → (list_all p (nodes_from (suc first) count) ≡ false → FailsFrom p (suc first) count) → FailsFrom p first (suc count)
    go true was rest =
        let f = rest (sym (ap (λ b. b && list_all p (nodes_from (suc first) count)) was) ∙ h) in
        record { at = f.at; low = omega (arith, f.low); high = omega (arith, f.high); fails = f.fails }
    go false was rest = record { at = first; low = omega arith; high = omega arith; fails = was }

pub all_at : (N : ℕ) (p : ℕ → Bool) (n : ℕ) → list_all p (nodes N) ≡ true → is_node N n ≡ true → p n ≡ true
all_at N p n all node = all_from p 1 N n all (grind (arith, node)) (grind (arith, node))

pub all_fails : (N : ℕ) (p : ℕ → Bool) → list_all p (nodes N) ≡ false → Fails N p
all_fails N p h = let f = fails_from p 1 N h in record { at = f.at; node = node_is N f.at f.low (omega (arith, f.high)); fails = f.fails }

-- a quantifier of the sign is a test at every node, and its failing is one node
pub quantified_at : (N : ℕ) (sign all : Bool) (p : ℕ → Bool) (n : ℕ) → same_truth sign all ≡ true → same_truth sign (holds_at all p (nodes N)) ≡ true → is_node N n ≡ true → same_truth sign (p n) ≡ true
quantified_at N true true p n s h node = all_at N p n h node
quantified_at N true false p n s h node = cc
quantified_at N false true p n s h node = cc
quantified_at N false false p n s h node = all_at N (λ x. not (p x)) n (sym (not_not _) ∙ ap not (sym (any_is p (nodes N))) ∙ h) node

pub quantified_fails : (N : ℕ) (sign all : Bool) (p : ℕ → Bool) → same_truth sign all ≡ true → same_truth sign (holds_at all p (nodes N)) ≡ false → Fails N (λ n. same_truth sign (p n))
quantified_fails N true true p s h = all_fails N p h
quantified_fails N true false p s h = cc
quantified_fails N false true p s h = cc
quantified_fails N false false p s h = all_fails N (λ x. not (p x)) (sym (not_not _) ∙ ap not (sym (any_is p (nodes N))) ∙ h)

-- the node of a variable of a frame
pub record HasNode (N : ℕ) (frame : List ℕ) (k : ℕ) : Type 0 where
  pub node : ℕ
  pub there : slice_get frame k ≡ Some node
  pub is : is_node N node ≡ true

pub frame_node : (N : ℕ) (frame : List ℕ) (k : ℕ) → list_all (is_node N) frame ≡ true → k < length frame → HasNode N frame k
frame_node N [] k all h = absurd (omega (arith, h))
frame_node N (n ∷ ns) zero all h = record { node = n; there = refl; is = (and_parts _ _ all).0 }
frame_node N (n ∷ ns) (suc k) all h = let r = frame_node N ns k (and_parts _ _ all).1 (omega (arith, h)) in record { node = r.node; there = r.there; is = r.is }

pub get_some_below : {X : Type 0} (xs : List X) (k : ℕ) (x : X) → slice_get xs k ≡ Some x → k < length xs
get_some_below [] k x e = cc
get_some_below (y ∷ ys) zero x e = omega arith
get_some_below (y ∷ ys) (suc k) x e = omega (arith, get_some_below ys k x e)

pub get_first : {X : Type 0} (xs ys : List X) (k : ℕ) → k < length xs → slice_get (xs ++ ys) k ≡ slice_get xs k
get_first [] ys k h = absurd (omega (arith, h))
get_first (x ∷ xs) ys zero h = refl
get_first (x ∷ xs) ys (suc k) h = get_first xs ys k (omega (arith, h))

pub get_past : {X : Type 0} (xs ys : List X) (k : ℕ) → length xs ≤ k → slice_get (xs ++ ys) k ≡ slice_get ys (k - length xs)
get_past [] ys k h = ap (slice_get ys) (omega arith)
get_past (x ∷ xs) ys zero h = absurd (omega (arith, h))
get_past (x ∷ xs) ys (suc k) h = get_past xs ys k (omega (arith, h)) ∙ ap (slice_get ys) (omega arith)

pub get_there : {X : Type 0} (xs : List X) (k : ℕ) → k < length xs → slice_get xs k ≡ None → ⊥
get_there [] k h e = absurd (omega (arith, h))
get_there (x ∷ xs) zero h e = cc
get_there (x ∷ xs) (suc k) h e = get_there xs k (omega (arith, h)) e

-- names of nodes
pub same_node_self : (x : AbsNode) → same_node x x ≡ true
same_node_self (Kept k) = grind arith
same_node_self (Fired k) = grind arith
same_node_self Other = refl

pub same_node_is : (x y : AbsNode) → same_node x y ≡ true → x ≡ y
same_node_is (Kept k) (Kept l) h = ap Kept (let e : k ≡ l = grind (arith, h) in e)
same_node_is (Fired k) (Fired l) h = ap Fired (let e : k ≡ l = grind (arith, h) in e)
same_node_is Other Other h = refl
same_node_is x y h = absurd cc
