-- Legal codes are of states that fit the window.
use Rattle.std.proofs.Common.{◌≡◌, ℕ, zero, suc, ◌+◌, ◌-◌, ◌*◌, ◌^◌, ◌<◌, ◌≤◌, Bool, true, false, cond, ◌&&◌, List, [], ◌∷◌, ◌++◌, length, map, get_or, replicate, Option, Some, None, refl, sym, ◌∙◌, ap, subst, arith}
use Rattle.std.specs.Prelude.{slice_get, unwrap_or, nat_eq, nat_le, nat_lt, int_le, ℤ, pos, negsuc, ◌+ℤ◌, ◌-ℤ◌, ◌≤ℤ◌}
use Rattle.std.specs.List.{flat_map, list_all}
use Rattle.std.specs.Option.{option_map_or}
use Rattle.std.proofs.Math.Nat.{pow-zero, pow-suc}
use Rattle.std.proofs.lemmas.Bool.{and_parts}
use Rattle.std.proofs.lemmas.Bool.Decides.{nat_tests}
use Rattle.term_core.specs.declared.machine.CellFamily.{CellFamily}
use Rattle.term_core.specs.declared.value.Sort.{Sort}
use Rattle.term_core.specs.declared.value.Sort.TheVariants as sort
use Rattle.term_core.specs.Nodes.{nodes, nodes_from, is_node, choices}
use Rattle.term_core.specs.Cells.{cells_from, first_place, choice_place, place_of}
use Rattle.other_abstract.specs.declared.node.AbsNode.TheVariants.{Kept, Fired, Other}
use Rattle.other_abstract.specs.declared.value.AbsValue.{AbsValue}
use Rattle.other_abstract.specs.declared.value.AbsValue.TheVariants.{Undefined, Truth, Number, Member, Node}
use Rattle.other_abstract.specs.Windows.{Window, size, is_abs_node, is_of_sort, family_may_have, may_have}
use Rattle.other_abstract.specs.Tests.{window_nodes, ints_from, count_of, values_of}
use Rattle.other_abstract.specs.Machines.{FitsWindow}
use Rattle.bit_encode.specs.Codes.{width, cell_values, cell_lists, coded_place, coded_state, is_legal}
use Rattle.bit_encode.proofs.WindowLemmas.{length_append, length_map}
use Rattle.bit_encode.proofs.OrderLemmas.{all_append, all_map, numbers_are_nodes, coded_length}

-- where lists stand that are repeated
get_repeated : {X : Type 0} (v : X) (rest : List X) (n j : ℕ) → j < n → slice_get (replicate n v ++ rest) j ≡ Some v
get_repeated v rest zero j h = absurd (omega (arith, h))
get_repeated v rest (suc n) zero h = refl
get_repeated v rest (suc n) (suc j) h = get_repeated v rest n j (omega (arith, h))

get_behind : {X : Type 0} (v : X) (rest : List X) (n k : ℕ) → slice_get (replicate n v ++ rest) (n + k) ≡ slice_get rest k
get_behind v rest zero k = let e : zero + k ≡ k = omega arith in ap (slice_get rest) e
get_behind v rest (suc n) k = let e : suc n + k ≡ suc (n + k) = omega arith in ap (slice_get (v ∷ (replicate n v ++ rest))) e ∙ get_behind v rest n k

list_there : (N : ℕ) (v : CellFamily → List AbsValue) (fs : List CellFamily) (f j : ℕ) (g : CellFamily) → slice_get fs f ≡ Some g → j < N ^ g.axes
    → slice_get (flat_map (λ (g : CellFamily). replicate (N ^ g.axes) (v g)) fs) (first_place N fs f + j) ≡ Some (v g)
list_there N v [] f j g e h = cc
list_there N v (g' ∷ fs) zero j g e h =
    let same : g' ≡ g = cc in
    let z : 0 + j ≡ j = omega arith in
    ap (slice_get (replicate (N ^ g'.axes) (v g') ++ flat_map (λ (g : CellFamily). replicate (N ^ g.axes) (v g)) fs)) z
    ∙ get_repeated (v g') (flat_map (λ (g : CellFamily). replicate (N ^ g.axes) (v g)) fs) (N ^ g'.axes) j (subst (λ (k : CellFamily). j < N ^ k.axes) (sym same) h)
    ∙ ap (λ k. Some (v k)) same
list_there N v (g' ∷ fs) (suc f) j g e h =
    ap (slice_get (replicate (N ^ g'.axes) (v g') ++ flat_map (λ (g : CellFamily). replicate (N ^ g.axes) (v g)) fs)) (assoc (N ^ g'.axes) (first_place N fs f) j)
    ∙ get_behind (v g') (flat_map (λ (g : CellFamily). replicate (N ^ g.axes) (v g)) fs) (N ^ g'.axes) (first_place N fs f + j)
    ∙ list_there N v fs f j g e h
  where
    assoc : (a b c : ℕ) → a + b + c ≡ a + (b + c)
    assoc a b c = omega arith

-- a choice of nodes stands among as many as there are
choice_below : (N : ℕ) (at : List ℕ) → list_all (is_node N) at ≡ true → choice_place N at < N ^ length at
choice_below N [] h = let z : N ^ length {A = ℕ} [] ≡ 1 = pow-zero N in subst (λ k. 0 < k) (sym z) (omega arith)
choice_below N (n ∷ at) h =
    let parts = and_parts (is_node N n) (list_all (is_node N) at) h in
    let less = choice_below N at parts.1 in
    let ends = and_parts (nat_le 1 n) (nat_le n N) parts.0 in
    let more : N ^ suc (length at) ≡ N ^ length at * N = pow-suc N (length at) in
    subst (λ k. (n - 1) * N ^ length at + choice_place N at < k) (sym more) (below n N (N ^ length at) (choice_place N at) (grind (arith, nat_tests, ends.0)) (grind (arith, nat_tests, ends.1)) less)
  where
    below : (n N P j : ℕ) → 1 ≤ n → n ≤ N → j < P → (n - 1) * P + j < P * N
    below zero N P j a b l = absurd (omega (arith, a))
    below (suc m) N P j a b l =
        let d : ℕ = N - suc m in
        let e : N ≡ m + 1 + d = omega (arith, b) in
        let f : suc m - 1 ≡ m = omega arith in
        let w : P * N ≡ m * P + P + P * d = ap (λ k. P * k) e ∙ grind arith in
        let u : (suc m - 1) * P ≡ m * P = ap (λ k. k * P) f in
        omega (arith, w, u, l)

-- what a coded cell is
coded_there : (x : ℕ → Bool) (first : ℕ) (ls : List (List AbsValue)) (k : ℕ) (vs : List AbsValue) → is_legal x first ls ≡ true → slice_get ls k ≡ Some vs
    → (n : ℕ) × (n < length vs) × (slice_get (coded_state x first ls) k ≡ Some (get_or vs n Undefined))
coded_there x first [] k vs h e = cc
coded_there x first (l ∷ ls) zero vs h e =
    let same : l ≡ vs = cc in
    let parts = and_parts (nat_lt (coded_place x first l) (length l)) (is_legal x (first + width (length l)) ls) h in
    (coded_place x first l, subst (λ (v : List AbsValue). coded_place x first l < length v) same (grind (arith, nat_tests, parts.0)), ap (λ v. Some (get_or v (coded_place x first l) Undefined)) same)
coded_there x first (l ∷ ls) (suc k) vs h e =
    let parts = and_parts (nat_lt (coded_place x first l) (length l)) (is_legal x (first + width (length l)) ls) h in
    coded_there x (first + width (length l)) ls k vs parts.1 e

-- the values of a family are its own
all_at : {X : Type 0} (p : X → Bool) (xs : List X) (n : ℕ) (d : X) → list_all p xs ≡ true → n < length xs → p (get_or xs n d) ≡ true
all_at p [] n d h l = absurd (omega (arith, l))
all_at p (x ∷ xs) zero d h l = let parts = and_parts (p x) (list_all p xs) h in parts.0
all_at p (x ∷ xs) (suc n) d h l = let parts = and_parts (p x) (list_all p xs) h in all_at p xs n d parts.1 (omega (arith, l))

all_imply : {X : Type 0} (p q : X → Bool) (xs : List X) → ((x : X) → p x ≡ true → q x ≡ true) → list_all p xs ≡ true → list_all q xs ≡ true
all_imply p q [] imply h = refl
all_imply p q (x ∷ xs) imply h = let parts = and_parts (p x) (list_all p xs) h in ap (λ b. b && list_all q xs) (imply x parts.0) ∙ all_imply p q xs imply parts.1

both_true : (a b : Bool) → a ≡ true → b ≡ true → (a && b) ≡ true
both_true a b e f = ap (λ c. c && b) e ∙ f

ints_within : (low high z : ℤ) (count : ℕ) → low ≤ℤ z → (z +ℤ pos count) ≤ℤ (high +ℤ pos 1) → list_all (λ z. int_le low z && int_le z high) (ints_from z count) ≡ true
ints_within low high z zero a b = refl
ints_within low high z (suc count) a b =
    ap (λ c. c && list_all (λ z. int_le low z && int_le z high) (ints_from (z +ℤ pos 1) count)) (both_true (int_le low z) (int_le z high) (grind (arith, a)) (grind (arith, b)))
    ∙ ints_within low high (z +ℤ pos 1) count (grind (arith, a)) (grind (arith, b))

members_within : (kind count first n : ℕ) → first + n ≤ count → list_all (λ i. nat_eq kind kind && nat_lt i count) (nodes_from first n) ≡ true
members_within kind count first zero h = refl
members_within kind count first (suc n) h =
    ap (λ c. c && list_all (λ i. nat_eq kind kind && nat_lt i count) (nodes_from (suc first) n)) (both_true (nat_eq kind kind) (nat_lt first count) (grind (arith, nat_tests)) (grind (arith, nat_tests, h)))
    ∙ members_within kind count (suc first) n (omega (arith, h))

module _ (W : Window) where
  sort_fits : (s : Sort) → list_all (is_of_sort W s) (values_of W s) ≡ true
  sort_fits sort.Truth = refl
  sort_fits (sort.Range low high) = all_map (is_of_sort W (sort.Range low high)) (λ z. int_le low z && int_le z high) Number (ints_from low (count_of (high -ℤ low +ℤ pos 1))) (λ z. refl) (go (high -ℤ low +ℤ pos 1) refl)
    where
      go : (d : ℤ) → high -ℤ low +ℤ pos 1 ≡ d → list_all (λ z. int_le low z && int_le z high) (ints_from low (count_of d)) ≡ true
      go (pos n) e = ints_within low high low n (grind arith) (grind (arith, e))
      go (negsuc n) e = refl
  sort_fits (sort.Members kind count) = all_map (is_of_sort W (sort.Members kind count)) (λ i. nat_eq kind kind && nat_lt i count) (λ i. Member kind i) (nodes_from 0 count) (λ i. refl) (members_within kind count 0 count (omega arith))
  sort_fits sort.Node =
      all_map (is_of_sort W sort.Node) (is_abs_node W) Node (window_nodes W ++ Other ∷ []) (λ n. refl)
      (all_append (is_abs_node W) (window_nodes W) (Other ∷ [])
      (all_append (is_abs_node W) (map Kept (nodes W.kept)) (map Fired (nodes W.fired))
      (all_map (is_abs_node W) (is_node W.kept) Kept (nodes W.kept) (λ k. refl) (numbers_are_nodes W.kept 0 W.kept (omega arith)))
      (all_map (is_abs_node W) (is_node W.fired) Fired (nodes W.fired) (λ k. refl) (numbers_are_nodes W.fired 0 W.fired (omega arith))))
      refl)

  none_of_sort : (s : Sort) → is_of_sort W s Undefined ≡ false
  none_of_sort sort.Truth = refl
  none_of_sort (sort.Range low high) = refl
  none_of_sort (sort.Members kind count) = refl
  none_of_sort sort.Node = refl

  family_fits : (g : CellFamily) → list_all (family_may_have W g) (cell_values W g) ≡ true
  family_fits g =
      all_append (family_may_have W g) (cond g.undefined (Undefined ∷ []) []) (values_of W g.sort) (go g.undefined refl)
      (all_imply (is_of_sort W g.sort) (family_may_have W g) (values_of W g.sort) own (sort_fits g.sort))
    where
      go : (b : Bool) → g.undefined ≡ b → list_all (family_may_have W g) (cond b (Undefined ∷ []) []) ≡ true
      go true e = ap (λ c. c && true) e
      go false e = refl

      own : (v : AbsValue) → is_of_sort W g.sort v ≡ true → family_may_have W g v ≡ true
      own Undefined h = let w : false ≡ true = sym (none_of_sort g.sort) ∙ h in cc
      own (Truth b) h = h
      own (Number z) h = h
      own (Member k i) h = h
      own (Node n) h = h

  -- the cells are counted alike
  count_chosen : (N c : ℕ) → length (choices N c) ≡ N ^ c
  count_chosen N zero = sym (pow-zero N)
  count_chosen N (suc c) = over (nodes N) ∙ ap (λ k. k * length (choices N c)) (counted 1 N) ∙ ap (λ k. N * k) (count_chosen N c) ∙ swap N (N ^ c) ∙ sym (pow-suc N c)
    where
      over : (ns : List ℕ) → length (flat_map (λ n. map (λ (rest : List ℕ). n ∷ rest) (choices N c)) ns) ≡ length ns * length (choices N c)
      over [] = none (length (choices N c))
        where
          none : (n : ℕ) → 0 ≡ 0 * n
          none n = grind arith
      over (n ∷ ns) =
          length_append (map (λ (rest : List ℕ). n ∷ rest) (choices N c)) (flat_map (λ n. map (λ (rest : List ℕ). n ∷ rest) (choices N c)) ns)
          ∙ ap (λ k. k + length (flat_map (λ n. map (λ (rest : List ℕ). n ∷ rest) (choices N c)) ns)) (length_map (λ (rest : List ℕ). n ∷ rest) (choices N c))
          ∙ ap (λ k. length (choices N c) + k) (over ns) ∙ one (length ns) (length (choices N c))
        where
          one : (a b : ℕ) → b + a * b ≡ suc a * b
          one a b = grind arith

      counted : (first n : ℕ) → length (nodes_from first n) ≡ n
      counted first zero = refl
      counted first (suc n) = ap suc (counted (suc first) n)

      swap : (a b : ℕ) → a * b ≡ b * a
      swap a b = grind arith

  count_cells : (N first : ℕ) (v : CellFamily → List AbsValue) (fs : List CellFamily) → length (flat_map (λ (g : CellFamily). replicate (N ^ g.axes) (v g)) fs) ≡ length (cells_from N first fs)
  count_cells N first v [] = refl
  count_cells N first v (g ∷ fs) =
      length_append (replicate (N ^ g.axes) (v g)) (flat_map (λ (g : CellFamily). replicate (N ^ g.axes) (v g)) fs)
      ∙ ap (λ k. k + length (flat_map (λ (g : CellFamily). replicate (N ^ g.axes) (v g)) fs)) (repeated (N ^ g.axes) (v g))
      ∙ ap (λ k. N ^ g.axes + k) (count_cells N (suc first) v fs)
      ∙ sym (length_append (map (λ (at : List ℕ). record { family = first; at = at }) (choices N g.axes)) (cells_from N (suc first) fs)
      ∙ ap (λ k. k + length (cells_from N (suc first) fs)) (length_map (λ (at : List ℕ). record { family = first; at = at }) (choices N g.axes) ∙ count_chosen N g.axes))
    where
      repeated : (n : ℕ) (l : List AbsValue) → length (replicate n l) ≡ n
      repeated zero l = refl
      repeated (suc n) l = ap suc (repeated n l)

  cell_fits : (x : ℕ → Bool) (first : ℕ) → is_legal x first (cell_lists W) ≡ true → (f : ℕ) (at : List ℕ) (o : Option CellFamily) → slice_get W.families f ≡ o
      → option_map_or (λ (family : CellFamily). nat_eq (length at) family.axes && list_all (is_node (size W)) at) o false ≡ true
      → option_map_or (λ (family : CellFamily). family_may_have W family (unwrap_or (slice_get (coded_state x first (cell_lists W)) (place_of (size W) W.families f at)) Undefined)) o false ≡ true
  cell_fits x first legal f at None e h = h
  cell_fits x first legal f at (Some g) e h =
      let parts = and_parts (nat_eq (length at) g.axes) (list_all (is_node (size W)) at) h in
      let long : length at ≡ g.axes = grind (arith, nat_tests, parts.0) in
      let there = list_there (size W) (cell_values W) W.families f (choice_place (size W) at) g e (subst (λ k. choice_place (size W) at < size W ^ k) long (choice_below (size W) at parts.1)) in
      let is = coded_there x first (cell_lists W) (place_of (size W) W.families f at) (cell_values W g) legal there in
      ap (λ o. family_may_have W g (unwrap_or o Undefined)) is.2 ∙ all_at (family_may_have W g) (cell_values W g) is.0 Undefined (family_fits g) is.1

  pub legal_fits : (x : ℕ → Bool) (first : ℕ) → is_legal x first (cell_lists W) ≡ true → FitsWindow W (coded_state x first (cell_lists W))
  legal_fits x first legal = record {
    count = coded_length x first (cell_lists W) ∙ count_cells (size W) 0 (cell_values W) W.families;
    values = λ f at is.
        ap (λ b. may_have W f (cond b (unwrap_or (slice_get (coded_state x first (cell_lists W)) (place_of (size W) W.families f at)) Undefined) Undefined)) is
        ∙ cell_fits x first legal f at (slice_get W.families f) refl is;
  }
