-- Choices, names in a window, and the values of an image.
use Rattle.std.proofs.Common.{◌≡◌, ℕ, zero, suc, ◌+◌, ◌-◌, ◌<◌, ◌≤◌, Bool, true, false, ◌&&◌, cond, List, [], ◌∷◌, length, map, get_or, Some, refl, sym, ap, ◌∙◌, arith}
use Rattle.std.specs.Prelude.{nat_lt, nat_eq, slice_get, unwrap_or}
use Rattle.std.specs.List.{list_all}
use Rattle.std.specs.Option.{option_map}
use Rattle.std.proofs.lemmas.Bool.{and_parts}
use Rattle.std.proofs.lemmas.Option.{slice_get-map, get_or_from_slice_get}
use Rattle.std.proofs.lemmas.List.{length-map}
use Rattle.term_core.specs.declared.value.Value.TheVariants as v
use Rattle.term_core.specs.declared.machine.CellFamily.{CellFamily}
use Rattle.term_core.specs.Nodes.{is_node}
use Rattle.term_core.specs.Variables.{has_axes}
use Rattle.term_core.specs.Cells.{State, cells, is_cell, place_of, cell_value}
use Rattle.other_abstract.proofs.CellLemmas.{Known, is_cell_is}
use Rattle.other_abstract.specs.declared.node.AbsNode.{AbsNode}
use Rattle.other_abstract.specs.declared.node.AbsNode.TheVariants.{Kept, Fired, Other}
use Rattle.other_abstract.specs.declared.value.AbsValue.TheVariants as a
use Rattle.other_abstract.specs.Windows.{Window, node_number, numbered_node, is_in_window, is_abs_node}
use Rattle.term_core.specs.Cells.{table, table_value}
use Rattle.other_abstract.specs.May.{value_at}
use Rattle.other_abstract.specs.Images.{later, place_in, is_chosen, are_distinct, node_at, renamed_node, renamed, window_of, image}

pub number_of : (m k : ℕ) → node_number m (numbered_node m k) ≡ k
number_of m zero = refl
number_of m (suc k) = go (nat_lt k m) refl
  where
    go : (b : Bool) → nat_lt k m ≡ b → node_number m (cond b (Kept (suc k)) (Fired (suc k - m))) ≡ suc k
    go true was = refl
    go false was = let h : m ≤ k = grind (arith, was) in omega (arith, h)

-- the node at a place
later_is : (p j : ℕ) → later p ≡ suc j → (i : ℕ) × (p ≡ suc i) × (j ≡ suc i)
later_is zero j e = cc
later_is (suc p) j e = (p, refl, (let q : suc p ≡ j = cc in sym q))

pub there : (c : List ℕ) (n j : ℕ) → place_in c n ≡ suc j → slice_get c j ≡ Some n
there [] n j e = cc
there (x ∷ xs) n j e = go (nat_eq n x) refl e (λ i q. there xs n i q)
  where
    go : (b : Bool) → nat_eq n x ≡ b → cond b 1 (later (place_in xs n)) ≡ suc j → ((i : ℕ) → place_in xs n ≡ suc i → slice_get xs i ≡ Some n) → slice_get (x ∷ xs) j ≡ Some n
    go true was f rest =
        let q : 0 ≡ j = omega (arith, f) in let w : n ≡ x = grind (arith, was) in
        ap (slice_get (x ∷ xs)) (sym q) ∙ ap Some (sym w)
    go false was f rest = let l = later_is (place_in xs n) j f in ap (slice_get (x ∷ xs)) l.2 ∙ rest l.0 l.1

pub place_bound : (c : List ℕ) (n : ℕ) → place_in c n ≤ length c
place_bound [] n = omega arith
place_bound (x ∷ xs) n = go (nat_eq n x) (place_in xs n) (place_bound xs n)
  where
    go : (b : Bool) (p : ℕ) → p ≤ length xs → cond b 1 (later p) ≤ suc (length xs)
    go true p h = omega arith
    go false zero h = omega arith
    go false (suc p) h = omega (arith, h)

-- the place of the node at a place
pub place_back : (c : List ℕ) (j : ℕ) → are_distinct c ≡ true → j < length c → place_in c (get_or c j 0) ≡ suc j
place_back [] j once h = absurd (omega (arith, h))
place_back (x ∷ xs) zero once h = ap (λ b. cond b 1 (later (place_in xs x))) (let e : nat_eq x x ≡ true = grind arith in e)
place_back (x ∷ xs) (suc j) once h = go (nat_eq (get_or xs j 0) x) refl (place_back xs j (and_parts (nat_eq (place_in xs x) 0) (are_distinct xs) once).1 (omega (arith, h)))
  where
    go : (b : Bool) → nat_eq (get_or xs j 0) x ≡ b → place_in xs (get_or xs j 0) ≡ suc j → cond b 1 (later (place_in xs (get_or xs j 0))) ≡ suc (suc j)
    go true was e =
        let w : get_or xs j 0 ≡ x = grind (arith, was) in
        let z : nat_eq (place_in xs x) 0 ≡ true = (and_parts (nat_eq (place_in xs x) 0) (are_distinct xs) once).0 in
        let y : place_in xs x ≡ 0 = grind (arith, z) in
        let f : place_in xs x ≡ suc j = ap (place_in xs) (sym w) ∙ e in
        absurd (omega (arith, y, f))
    go false was e = ap later e

pub chosen_there : (c : List ℕ) (n : ℕ) → is_chosen c n ≡ true → node_at c (place_in c n) ≡ n
chosen_there c n h = go (place_in c n) refl h
  where
    go : (p : ℕ) → place_in c n ≡ p → nat_lt 0 p ≡ true → node_at c p ≡ n
    go zero e h = absurd cc
    go (suc j) e h =
        let q : suc j - 1 ≡ j = omega arith in
        ap (λ i. get_or c i 0) q ∙ get_or_from_slice_get c j n 0 (there c n j e)

pub chosen_node : (N : ℕ) (c : List ℕ) (n : ℕ) → list_all (is_node N) c ≡ true → is_chosen c n ≡ true → is_node N n ≡ true
chosen_node N [] n are h = absurd cc
chosen_node N (x ∷ xs) n are h = go (nat_eq n x) refl h (λ q. chosen_node N xs n (and_parts (is_node N x) (list_all (is_node N) xs) are).1 q)
  where
    earlier : (p : ℕ) → nat_lt 0 (later p) ≡ true → nat_lt 0 p ≡ true
    earlier zero e = e
    earlier (suc p) e = grind arith

    go : (b : Bool) → nat_eq n x ≡ b → nat_lt 0 (cond b 1 (later (place_in xs n))) ≡ true → (is_chosen xs n ≡ true → is_node N n ≡ true) → is_node N n ≡ true
    go true was f rest = let w : n ≡ x = grind (arith, was) in ap (is_node N) w ∙ (and_parts (is_node N x) (list_all (is_node N) xs) are).0
    go false was f rest = rest (earlier (place_in xs n) f)

-- names of the window
pub named_in : (m : ℕ) (families : List CellFamily) (c : List ℕ) (k : ℕ) → 0 < k → k ≤ length c → is_in_window (window_of m families c) (numbered_node m k) ≡ true
named_in m families c zero low high = absurd (omega (arith, low))
named_in m families c (suc k) low high = go (nat_lt k m) refl
  where
    go : (b : Bool) → nat_lt k m ≡ b → is_in_window (window_of m families c) (cond b (Kept (suc k)) (Fired (suc k - m))) ≡ true
    go true was = grind (arith, was)
    go false was = let h : m ≤ k = grind (arith, was) in let x : 1 ≤ suc k - m = omega (arith, h) in let y : suc k - m ≤ length c - m = omega (arith, high) in grind (arith, x, y)

pub in_is_abs : (W : Window) (n : AbsNode) → is_in_window W n ≡ true → is_abs_node W n ≡ true
in_is_abs W (Kept k) h = h
in_is_abs W (Fired k) h = h
in_is_abs W Other h = refl

pub named_abs : (m : ℕ) (families : List CellFamily) (c : List ℕ) (n : ℕ) → is_abs_node (window_of m families c) (renamed_node m c n) ≡ true
named_abs m families c n = go (place_in c n) (place_bound c n)
  where
    go : (p : ℕ) → p ≤ length c → is_abs_node (window_of m families c) (numbered_node m p) ≡ true
    go zero h = refl
    go (suc p) h = in_is_abs (window_of m families c) (numbered_node m (suc p)) (named_in m families c (suc p) (omega arith) h)

-- a node of the window names a chosen node
pub record Chosen (m : ℕ) (c : List ℕ) (n : AbsNode) : Type 0 where
  pub node : ℕ
  pub chosen : is_chosen c node ≡ true
  pub named : renamed_node m c node ≡ n

pub window_number : (m : ℕ) (families : List CellFamily) (c : List ℕ) (n : AbsNode) → m ≤ length c → is_in_window (window_of m families c) n ≡ true → (0 < node_number m n) × (node_number m n ≤ length c) × (numbered_node m (node_number m n) ≡ n)
window_number m families c (Kept zero) some h = cc
window_number m families c (Kept (suc k)) some h =
    let l : suc k ≤ m = grind (arith, h) in let e : nat_lt k m ≡ true = grind (arith, l) in
    (omega arith, omega (arith, l, some), ap (λ b. cond b (Kept (suc k)) (Fired (suc k - m))) e)
window_number m families c (Fired k) some h = go (m + k) refl
  where
    low : 1 ≤ k
    low = grind (arith, h)

    high : k ≤ length c - m
    high = grind (arith, h)

    go : (p : ℕ) → m + k ≡ p → (0 < m + k) × (m + k ≤ length c) × (numbered_node m (m + k) ≡ Fired k)
    go zero e = absurd (omega (arith, low, e))
    go (suc p) e =
        let f : nat_lt p m ≡ false = (let h : m ≤ p = omega (arith, low, e) in grind (arith, h)) in let q : suc p - m ≡ k = omega (arith, e) in
        (omega (arith, low), omega (arith, high, some), ap (numbered_node m) e ∙ ap (λ b. cond b (Kept (suc p)) (Fired (suc p - m))) f ∙ ap Fired q)
window_number m families c Other some h = cc

pub names_chosen : (m : ℕ) (families : List CellFamily) (c : List ℕ) (n : AbsNode) → are_distinct c ≡ true → m ≤ length c → is_in_window (window_of m families c) n ≡ true → Chosen m c n
names_chosen m families c n once some h =
    let w = window_number m families c n some h in
    let e : place_in c (get_or c (node_number m n - 1) 0) ≡ suc (node_number m n - 1) = place_back c (node_number m n - 1) once (omega (arith, w.0, w.1)) in
    let f : suc (node_number m n - 1) ≡ node_number m n = omega (arith, w.0) in
    record {
      node = get_or c (node_number m n - 1) 0;
      chosen = ap (nat_lt 0) (e ∙ f) ∙ (let l : 0 < node_number m n = w.0 in grind (arith, l));
      named = ap (numbered_node m) (e ∙ f) ∙ w.2;
    }

-- two chosen nodes of one name are one
pub place_same : (c : List ℕ) (n k : ℕ) → is_chosen c n ≡ true → place_in c n ≡ place_in c k → n ≡ k
place_same c n k h e = sym (chosen_there c n h) ∙ ap (node_at c) e ∙ chosen_there c k (sym (ap (nat_lt 0) e) ∙ h)

pub named_place : (m : ℕ) (c : List ℕ) (n : ℕ) (x : AbsNode) → renamed_node m c n ≡ x → place_in c n ≡ node_number m x
named_place m c n x e = sym (number_of m (place_in c n)) ∙ ap (node_number m) e

-- tables
map_get : {X Y : Type 0} (g : X → Y) (xs : List X) (k : ℕ) (x : X) → slice_get xs k ≡ Some x → slice_get (map g xs) k ≡ Some (g x)
map_get g xs k x e = slice_get-map g xs k ∙ ap (option_map g) e

module _ (laws : Known) where
  pub table_there : {X : Type 0} (n : ℕ) (fs : List CellFamily) (none : X) (g : ℕ → List ℕ → X) (f : ℕ) (at : List ℕ) → is_cell n fs f at ≡ true → table_value n fs none (table n fs g) f at ≡ g f at
  table_there n fs none g f at h =
      ap (λ b. cond b (unwrap_or (slice_get (table n fs g) (place_of n fs f at)) none) none) h
      ∙ ap (λ o. unwrap_or o none) (map_get (λ c. g c.family c.at) (cells n fs) (place_of n fs f at) (record { family = f; at = at }) (laws.places n fs f at h))

  pub table_nowhere : {X : Type 0} (n : ℕ) (fs : List CellFamily) (none : X) (s : List X) (f : ℕ) (at : List ℕ) → is_cell n fs f at ≡ false → table_value n fs none s f at ≡ none
  table_nowhere n fs none s f at h = ap (λ b. cond b (unwrap_or (slice_get s (place_of n fs f at)) none) none) h

  -- nodes that are all chosen
  numbers_of : (m : ℕ) (c ns : List ℕ) → map (node_number m) (map (renamed_node m c) ns) ≡ map (place_in c) ns
  numbers_of m c [] = refl
  numbers_of m c (n ∷ ns) = ap (λ x. x ∷ map (node_number m) (map (renamed_node m c) ns)) (number_of m (place_in c n)) ∙ ap (λ xs. place_in c n ∷ xs) (numbers_of m c ns)

  nodes_back : (c ns : List ℕ) → list_all (is_chosen c) ns ≡ true → map (node_at c) (map (place_in c) ns) ≡ ns
  nodes_back c [] h = refl
  nodes_back c (n ∷ ns) h =
      let p = and_parts (is_chosen c n) (list_all (is_chosen c) ns) h in
      ap (λ x. x ∷ map (node_at c) (map (place_in c) ns)) (chosen_there c n p.0) ∙ ap (λ xs. n ∷ xs) (nodes_back c ns p.1)

  places_are : (c ns : List ℕ) → list_all (is_chosen c) ns ≡ true → list_all (is_node (length c)) (map (place_in c) ns) ≡ true
  places_are c [] h = refl
  places_are c (n ∷ ns) h =
      let p = and_parts (is_chosen c n) (list_all (is_chosen c) ns) h in
      let b : place_in c n ≤ length c = place_bound c n in
      let q : is_node (length c) (place_in c n) ≡ true = (let l : nat_lt 0 (place_in c n) ≡ true = p.0 in grind (arith, l, b)) in
      ap (λ x. x && list_all (is_node (length c)) (map (place_in c) ns)) q ∙ places_are c ns p.1

  -- the image has at the names of chosen nodes the renamed value of their cell
  pub image_value : (N m : ℕ) (families : List CellFamily) (c : List ℕ) (s : State) (f : ℕ) (ns : List ℕ) → m ≤ length c → list_all (is_chosen c) ns ≡ true
      → value_at (window_of m families c) (image m families c (cell_value N families s)) f (map (renamed_node m c) ns) ≡ renamed m c (cell_value N families s f ns)
  image_value N m families c s f ns some chosen =
      let W = window_of m families c in
      let w = image m families c (cell_value N families s) in
      let e : m + (length c - m) ≡ length c = omega (arith, some) in
      ap (λ k. table_value k families a.Undefined w f (map (node_number m) (map (renamed_node m c) ns))) e
      ∙ ap (table_value (length c) families a.Undefined w f) (numbers_of m c ns)
      ∙ go (has_axes families f (length ns)) refl
    where
      at_places : is_cell (length c) families f (map (place_in c) ns) ≡ has_axes families f (length ns)
      at_places =
          is_cell_is (length c) families f (map (place_in c) ns)
          ∙ ap (λ b. has_axes families f (length (map (place_in c) ns)) && b) (places_are c ns chosen)
          ∙ and_true _ ∙ ap (has_axes families f) (length-map ns (place_in c))
        where
          and_true : (x : Bool) → (x && true) ≡ x
          and_true true = refl
          and_true false = refl

      go : (b : Bool) → has_axes families f (length ns) ≡ b → table_value (length c) families a.Undefined (image m families c (cell_value N families s)) f (map (place_in c) ns) ≡ renamed m c (cell_value N families s f ns)
      go true was =
          table_there (length c) families a.Undefined (λ f at. renamed m c (cell_value N families s f (map (node_at c) at))) f (map (place_in c) ns) (at_places ∙ was)
          ∙ ap (λ xs. renamed m c (cell_value N families s f xs)) (nodes_back c ns chosen)
      go false was =
          table_nowhere (length c) families a.Undefined (image m families c (cell_value N families s)) f (map (place_in c) ns) (at_places ∙ was)
          ∙ ap (renamed m c) (sym (ap (λ b. cond b (unwrap_or (slice_get s (place_of N families f ns)) v.Undefined) v.Undefined) (is_cell_is N families f ns ∙ ap (λ b. b && list_all (is_node N) ns) was)))
