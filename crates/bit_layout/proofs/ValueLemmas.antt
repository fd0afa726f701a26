-- The values that a cell may have stand in its list.
use Rattle.std.proofs.Common.{◌≡◌, ℕ, zero, suc, ◌+◌, ◌<◌, ◌≤◌, Bool, true, false, cond, ◌&&◌, ◌||◌, List, [], ◌∷◌, ◌++◌, map, refl, sym, ap, ◌∙◌, arith}
use Rattle.std.specs.Prelude.{nat_lt, nat_le, nat_eq, int_lt, int_le, ℤ, pos, negsuc, ◌+ℤ◌, ◌-ℤ◌}
use Rattle.std.specs.List.{list_any}
use Rattle.std.proofs.lemmas.Bool.{and_parts}
use Rattle.std.proofs.lemmas.Bool.Decides.{nat_tests}
use Rattle.term_core.specs.declared.value.Sort.{Sort}
use Rattle.term_core.specs.declared.value.Sort.TheVariants as sort
use Rattle.term_core.specs.declared.machine.CellFamily.{CellFamily}
use Rattle.term_core.specs.Nodes.{nodes, nodes_from, is_node}
use Rattle.term_core.specs.Values.{same_truth, same_number}
use Rattle.other_abstract.specs.declared.node.AbsNode.{AbsNode}
use Rattle.other_abstract.specs.declared.node.AbsNode.TheVariants.{Kept, Fired, Other}
use Rattle.other_abstract.specs.declared.value.AbsValue.{AbsValue}
use Rattle.other_abstract.specs.declared.value.AbsValue.TheVariants.{Undefined, Truth, Number, Member, Node}
use Rattle.other_abstract.specs.Windows.{Window, same_node, same_value, is_abs_node, is_of_sort, family_may_have}
use Rattle.other_abstract.specs.Tests.{window_nodes, ints_from, count_of, values_of}
use Rattle.bit_encode.specs.Codes.{cell_values}
use Rattle.bit_layout.proofs.SegmentLemmas.{stands}

-- values that are the same are one
same_truth_is : (a b : Bool) → same_truth a b ≡ true → a ≡ b
same_truth_is true true h = refl
same_truth_is false false h = refl
same_truth_is true false h = cc
same_truth_is false true h = cc

same_number_is : (a b : ℤ) → same_number a b ≡ true → a ≡ b
same_number_is (pos a) (pos b) h = ap pos (let e : a ≡ b = grind (arith, h) in e)
same_number_is (negsuc a) (negsuc b) h = ap negsuc (let e : a ≡ b = grind (arith, h) in e)
same_number_is (pos a) (negsuc b) h = cc
same_number_is (negsuc a) (pos b) h = cc

same_node_is : (x y : AbsNode) → same_node x y ≡ true → x ≡ y
same_node_is (Kept k) (Kept l) h = ap Kept (let e : k ≡ l = grind (arith, h) in e)
same_node_is (Fired k) (Fired l) h = ap Fired (let e : k ≡ l = grind (arith, h) in e)
same_node_is Other Other h = refl
same_node_is x y h = absurd cc

pub same_is : (x y : AbsValue) → same_value x y ≡ true → x ≡ y
same_is Undefined Undefined h = refl
same_is (Truth a) (Truth b) h = ap Truth (same_truth_is a b h)
same_is (Number a) (Number b) h = ap Number (same_number_is a b h)
same_is (Member k a) (Member l b) h =
    let p = and_parts (nat_eq k l) (nat_eq a b) h in
    let e : k ≡ l = (let f : nat_eq k l ≡ true = p.0 in grind (arith, f)) in
    let g : a ≡ b = (let f : nat_eq a b ≡ true = p.1 in grind (arith, f)) in
    ap (λ n. Member n a) e ∙ ap (Member l) g
same_is (Node a) (Node b) h = ap Node (same_node_is a b h)
same_is x y h = absurd cc

same_self : (x : AbsValue) → same_value x x ≡ true
same_self Undefined = refl
same_self (Truth true) = refl
same_self (Truth false) = refl
same_self (Number (pos a)) = grind (arith, nat_tests)
same_self (Number (negsuc a)) = grind (arith, nat_tests)
same_self (Member k a) = let e : nat_eq k k ≡ true = grind (arith, nat_tests) in let f : nat_eq a a ≡ true = grind (arith, nat_tests) in ap (λ b. b && nat_eq a a) e ∙ f
same_self (Node (Kept k)) = grind (arith, nat_tests)
same_self (Node (Fired k)) = grind (arith, nat_tests)
same_self (Node Other) = refl

-- lists
any_map : {X Y : Type 0} (p : Y → Bool) (g : X → Y) (xs : List X) → list_any p (map g xs) ≡ list_any (λ x. p (g x)) xs
any_map p g [] = refl
any_map p g (x ∷ xs) = ap (λ b. p (g x) || b) (any_map p g xs)

any_append : {X : Type 0} (p : X → Bool) (xs ys : List X) → list_any p (xs ++ ys) ≡ (list_any p xs || list_any p ys)
any_append p [] ys = refl
any_append p (x ∷ xs) ys = go (p x) (any_append p xs ys)
  where
    go : (b : Bool) → list_any p (xs ++ ys) ≡ (list_any p xs || list_any p ys) → (b || list_any p (xs ++ ys)) ≡ ((b || list_any p xs) || list_any p ys)
    go true e = refl
    go false e = e

or_first : (a b : Bool) → a ≡ true → (a || b) ≡ true
or_first true b e = refl
or_first false b e = cc

or_second : (a b : Bool) → b ≡ true → (a || b) ≡ true
or_second true b e = refl
or_second false b e = e

-- numbers of a range
next_bound : (low z : ℤ) (n : ℕ) → int_lt z (low +ℤ pos (suc n)) ≡ true → int_lt z (low +ℤ pos 1 +ℤ pos n) ≡ true
next_bound low z n b = grind (arith, b)

at_low : (low z : ℤ) → int_le low z ≡ true → int_le (low +ℤ pos 1) z ≡ false → low ≡ z
at_low low z a b = grind (arith, a, b)

past_none : (low z : ℤ) → int_le low z ≡ true → int_lt z (low +ℤ pos 0) ≡ false
past_none low z a = grind (arith, a)

ints_has : (q : ℤ → Bool) (low z : ℤ) (n : ℕ) → int_le low z ≡ true → int_lt z (low +ℤ pos n) ≡ true → q z ≡ true → list_any q (ints_from low n) ≡ true
ints_has q low z zero a b h = absurd (let f : false ≡ true = sym (past_none low z a) ∙ b in cc)
ints_has q low z (suc n) a b h = go (int_le (low +ℤ pos 1) z) refl (λ l m. ints_has q (low +ℤ pos 1) z n l m h)
  where
    go : (d : Bool) → int_le (low +ℤ pos 1) z ≡ d → (int_le (low +ℤ pos 1) z ≡ true → int_lt z (low +ℤ pos 1 +ℤ pos n) ≡ true → list_any q (ints_from (low +ℤ pos 1) n) ≡ true) → (q low || list_any q (ints_from (low +ℤ pos 1) n)) ≡ true
    go true was rest = or_second (q low) _ (rest was (next_bound low z n b))
    go false was rest = or_first (q low) _ (ap q (at_low low z a was) ∙ h)

range_end : (low high z : ℤ) → int_le low z ≡ true → int_lt z (low +ℤ pos (count_of (high -ℤ low +ℤ pos 1))) ≡ int_le z high
range_end low high z a = go (high -ℤ low +ℤ pos 1) refl
  where
    go : (d : ℤ) → high -ℤ low +ℤ pos 1 ≡ d → int_lt z (low +ℤ pos (count_of d)) ≡ int_le z high
    go (pos n) e = grind (arith, e, a)
    go (negsuc n) e = grind (arith, e, a)

members_has : (q : ℕ → Bool) (first count i : ℕ) → first ≤ i → i < first + count → q i ≡ true → list_any q (nodes_from first count) ≡ true
members_has q first zero i low high h = absurd (omega (arith, low, high))
members_has q first (suc count) i low high h = go (nat_eq first i) refl (λ l. members_has q (suc first) count i l (omega (arith, high)) h)
  where
    go : (b : Bool) → nat_eq first i ≡ b → (suc first ≤ i → list_any q (nodes_from (suc first) count) ≡ true) → (q first || list_any q (nodes_from (suc first) count)) ≡ true
    go true was rest = let e : first ≡ i = grind (arith, was) in or_first (q first) _ (ap q e ∙ h)
    go false was rest = let l : suc first ≤ i = grind (arith, was, low) in or_second (q first) _ (rest l)

any_node : (N : ℕ) (q : ℕ → Bool) (n : ℕ) → is_node N n ≡ true → q n ≡ true → list_any q (nodes N) ≡ true
any_node N q n node h =
    let ends = and_parts (nat_le 1 n) (nat_le n N) node in
    let low : 1 ≤ n = (let f : nat_le 1 n ≡ true = ends.0 in grind (arith, nat_tests, f)) in
    let high : n ≤ N = (let f : nat_le n N ≡ true = ends.1 in grind (arith, nat_tests, f)) in
    members_has q 1 N n low (omega (arith, high)) h

-- the values of a sort
module _ (W : Window) where
  window_has : (q : AbsNode → Bool) (n : AbsNode) → is_abs_node W n ≡ true → q n ≡ true → list_any q (window_nodes W ++ Other ∷ []) ≡ true
  window_has q (Kept k) is h =
      any_append q (window_nodes W) (Other ∷ [])
      ∙ or_first _ _ (any_append q (map Kept (nodes W.kept)) (map Fired (nodes W.fired)) ∙ or_first _ _ (any_map q Kept (nodes W.kept) ∙ any_node W.kept (λ k. q (Kept k)) k is h))
  window_has q (Fired k) is h =
      any_append q (window_nodes W) (Other ∷ [])
      ∙ or_first _ _ (any_append q (map Kept (nodes W.kept)) (map Fired (nodes W.fired)) ∙ or_second (list_any q (map Kept (nodes W.kept))) _ (any_map q Fired (nodes W.fired) ∙ any_node W.fired (λ k. q (Fired k)) k is h))
  window_has q Other is h = any_append q (window_nodes W) (Other ∷ []) ∙ or_second (list_any q (window_nodes W)) _ (or_first (q Other) false h)

  values_has : (s : Sort) (p : AbsValue → Bool) (x : AbsValue) → is_of_sort W s x ≡ true → p x ≡ true → list_any p (values_of W s) ≡ true
  values_has sort.Truth p (Truth false) is h = or_first (p (Truth false)) _ h
  values_has sort.Truth p (Truth true) is h = or_second (p (Truth false)) _ (or_first (p (Truth true)) false h)
  values_has (sort.Range low high) p (Number z) is h =
      let l = and_parts (int_le low z) (int_le z high) is in
      any_map p Number (ints_from low (count_of (high -ℤ low +ℤ pos 1))) ∙ ints_has (λ z. p (Number z)) low z (count_of (high -ℤ low +ℤ pos 1)) l.0 (range_end low high z l.0 ∙ l.1) h
  values_has (sort.Members kind count) p (Member other i) is h =
      let l = and_parts (nat_eq kind other) (nat_lt i count) is in
      let e : kind ≡ other = (let f : nat_eq kind other ≡ true = l.0 in grind (arith, f)) in
      let b : i < 0 + count = (let f : nat_lt i count ≡ true = l.1 in let g : i < count = grind (arith, f) in omega (arith, g)) in
      any_map p (λ i. Member kind i) (nodes_from 0 count) ∙ members_has (λ i. p (Member kind i)) 0 count i (omega arith) b (ap (λ k. p (Member k i)) e ∙ h)
  values_has sort.Node p (Node n) is h = any_map p Node (window_nodes W ++ Other ∷ []) ∙ window_has (λ n. p (Node n)) n is h
  values_has s p x is h = absurd cc

  sorted_stands : (g : CellFamily) (v : AbsValue) → is_of_sort W g.sort v ≡ true → stands (cell_values W g) v ≡ true
  sorted_stands g v is =
      any_append (λ u. same_value u v) (cond g.undefined (Undefined ∷ []) []) (values_of W g.sort)
      ∙ or_second (list_any (λ u. same_value u v) (cond g.undefined (Undefined ∷ []) [])) _ (values_has g.sort (λ u. same_value u v) v is (same_self v))

  -- a value that a cell may have stands in the list of its values
  pub value_stands : (g : CellFamily) (v : AbsValue) → family_may_have W g v ≡ true → stands (cell_values W g) v ≡ true
  value_stands g Undefined is = ap (λ b. stands (cond b (Undefined ∷ []) [] ++ values_of W g.sort) Undefined) is
  value_stands g (Truth b) is = sorted_stands g (Truth b) is
  value_stands g (Number z) is = sorted_stands g (Number z) is
  value_stands g (Member k i) is = sorted_stands g (Member k i) is
  value_stands g (Node n) is = sorted_stands g (Node n) is
