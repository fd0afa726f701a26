-- A state that fits a window has a value of its cell's list at each cell; and the kept part of a state that fits its window
-- fits the kept nodes.
use Rattle.std.proofs.Common.{◌≡◌, ℕ, zero, suc, ◌+◌, ◌*◌, ◌^◌, true, false, cond, ◌&&◌, List, [], ◌∷◌, ◌++◌, length, map, replicate, Option, Some, None, refl, sym, ◌∙◌, ap, subst, arith}
use Rattle.std.specs.Prelude.{slice_get, unwrap_or, nat_eq, nat_le}
use Rattle.std.specs.List.{flat_map, list_all}
use Rattle.std.specs.Option.{option_map_or}
use Rattle.std.proofs.Math.Nat.{pow-zero, pow-suc}
use Rattle.std.proofs.lemmas.Bool.{and_parts}
use Rattle.std.proofs.lemmas.Bool.Decides.{nat_tests}
use Rattle.term_core.specs.declared.machine.CellFamily.{CellFamily}
use Rattle.term_core.specs.declared.value.Sort.{Sort}
use Rattle.term_core.specs.declared.value.Sort.TheVariants as sort
use Rattle.term_core.specs.Nodes.{nodes, nodes_from, is_node, choices}
use Rattle.term_core.specs.Cells.{Cell, cells, cells_from, is_cell, place_of, table_value}
use Rattle.term_core.specs.Laws.{PlacesHaveCells}
use Rattle.other_abstract.specs.declared.node.AbsNode.TheVariants.{Kept, Fired, Other}
use Rattle.other_abstract.specs.declared.value.AbsValue.{AbsValue}
use Rattle.other_abstract.specs.declared.value.AbsValue.TheVariants.{Undefined, Truth, Number, Member, Node}
use Rattle.other_abstract.specs.declared.machine.AbstractMachine.{AbstractMachine}
use Rattle.other_abstract.specs.Windows.{Window, size, node_number, is_of_sort, family_may_have, may_have}
use Rattle.other_abstract.specs.May.{AbsCells, value_at}
use Rattle.other_abstract.specs.Machines.{FitsWindow, window, read_kept, kept_part}
use Rattle.bit_encode.specs.Codes.{cell_values, cell_lists}
use Rattle.bit_layout.proofs.SegmentLemmas.{stands, all_stand, each_stands}
use Rattle.bit_layout.proofs.ValueLemmas.{value_stands}

-- Lists

map_append : {X Y : Type 0} (f : X → Y) (xs ys : List X) → map f (xs ++ ys) ≡ map f xs ++ map f ys
map_append f [] ys = refl
map_append f (x ∷ xs) ys = ap (λ r. f x ∷ r) (map_append f xs ys)

map_map : {X Y Z : Type 0} (f : Y → Z) (g : X → Y) (xs : List X) → map f (map g xs) ≡ map (λ x. f (g x)) xs
map_map f g [] = refl
map_map f g (x ∷ xs) = ap (λ r. f (g x) ∷ r) (map_map f g xs)

map_same : {X Y : Type 0} (y : Y) (xs : List X) → map (λ x. y) xs ≡ replicate (length xs) y
map_same y [] = refl
map_same y (x ∷ xs) = ap (λ r. y ∷ r) (map_same y xs)

length_map : {X Y : Type 0} (f : X → Y) (xs : List X) → length (map f xs) ≡ length xs
length_map f [] = refl
length_map f (x ∷ xs) = ap suc (length_map f xs)

length_append : {X : Type 0} (xs ys : List X) → length (xs ++ ys) ≡ length xs + length ys
length_append [] ys = let e : length ys ≡ 0 + length ys = omega arith in e
length_append (x ∷ xs) ys = let e = length_append xs ys in omega (arith, e)

map_back : {X Y : Type 0} (f : X → Y) (xs : List X) (n : ℕ) (y : Y) → slice_get (map f xs) n ≡ Some y → (x : X) × (slice_get xs n ≡ Some x) × (f x ≡ y)
map_back f [] n y e = cc
map_back f (x ∷ xs) zero y e = let s : f x ≡ y = cc in (x, refl, s)
map_back f (x ∷ xs) (suc n) y e = map_back f xs n y e

-- The lists of values, cell by cell

counted : (first n : ℕ) → length (nodes_from first n) ≡ n
counted first zero = refl
counted first (suc n) = ap suc (counted (suc first) n)

count_chosen : (N c : ℕ) → length (choices N c) ≡ N ^ c
count_chosen N zero = sym (pow-zero N)
count_chosen N (suc c) = over (nodes N) ∙ ap (λ k. k * length (choices N c)) (counted 1 N) ∙ ap (λ k. N * k) (count_chosen N c) ∙ swap N (N ^ c) ∙ sym (pow-suc N c)
  where
    over : (ns : List ℕ) → length (flat_map (λ n. map (λ (rest : List ℕ). n ∷ rest) (choices N c)) ns) ≡ length ns * length (choices N c)
    over [] = none (length (choices N c))
      where
        none : (n : ℕ) → 0 ≡ 0 * n
        none n = grind arith
    over (n ∷ ns) =
        length_append (map (λ (rest : List ℕ). n ∷ rest) (choices N c)) (flat_map (λ n. map (λ (rest : List ℕ). n ∷ rest) (choices N c)) ns)
        ∙ ap (λ k. k + length (flat_map (λ n. map (λ (rest : List ℕ). n ∷ rest) (choices N c)) ns)) (length_map (λ (rest : List ℕ). n ∷ rest) (choices N c))
        ∙ ap (λ k. length (choices N c) + k) (over ns) ∙ one (length ns) (length (choices N c))
      where
        one : (a b : ℕ) → b + a * b ≡ suc a * b
        one a b = grind arith

    swap : (a b : ℕ) → a * b ≡ b * a
    swap a b = grind arith

-- the list of values of a family by its number
abbrev pub list_of : (CellFamily → List AbsValue) → List CellFamily → ℕ → List AbsValue
list_of v fs f = option_map_or v (slice_get fs f) []

by_cell : (N first : ℕ) (v : CellFamily → List AbsValue) (all : ℕ → List AbsValue) (fs : List CellFamily) → ((k : ℕ) → all (first + k) ≡ list_of v fs k)
    → flat_map (λ (g : CellFamily). replicate (N ^ g.axes) (v g)) fs ≡ map (λ (c : Cell). all c.family) (cells_from N first fs)
by_cell N first v all [] is = refl
by_cell N first v all (g ∷ fs) is =
    let here : List Cell = map (λ (at : List ℕ). record { family = first; at = at }) (choices N g.axes) in
    let z : first ≡ first + 0 = omega arith in
    ap (λ r. r ++ flat_map (λ (g : CellFamily). replicate (N ^ g.axes) (v g)) fs)
    (ap (λ k. replicate k (v g)) (sym (count_chosen N g.axes)) ∙ sym (map_same (v g) (choices N g.axes))
    ∙ ap (λ l. map (λ (at : List ℕ). l) (choices N g.axes)) (sym (ap all z ∙ is 0))
    ∙ sym (map_map (λ (c : Cell). all c.family) (λ (at : List ℕ). record { family = first; at = at }) (choices N g.axes)))
    ∙ ap (λ r. map (λ (c : Cell). all c.family) here ++ r)
    (by_cell N (suc first) v all fs (λ k. let s : suc first + k ≡ first + suc k = omega arith in ap all s ∙ is (suc k)))
    ∙ sym (map_append (λ (c : Cell). all c.family) here (cells_from N (suc first) fs))

lists_by_cell : (W : Window) → cell_lists W ≡ map (λ (c : Cell). list_of (cell_values W) W.families c.family) (cells (size W) W.families)
lists_by_cell W = by_cell (size W) 0 (cell_values W) (list_of (cell_values W) W.families) W.families (λ k. let z : 0 + k ≡ k = omega arith in ap (list_of (cell_values W) W.families) z)

-- Each value of a fitting state stands in the list of its cell.

list_stands : (W : Window) (o : Option CellFamily) (v : AbsValue) → option_map_or (λ (family : CellFamily). family_may_have W family v) o false ≡ true → stands (option_map_or (cell_values W) o []) v ≡ true
list_stands W None v h = cc
list_stands W (Some g) v h = value_stands W g v h

pub fitting_stands : PlacesHaveCells → (W : Window) (w : AbsCells) → FitsWindow W w → all_stand (cell_lists W) w ≡ true
fitting_stands places W w fits =
    each_stands (cell_lists W) w (fits.count ∙ sym (ap length (lists_by_cell W) ∙ length_map (λ (c : Cell). list_of (cell_values W) W.families c.family) (cells (size W) W.families)))
    (λ k vs v e f.
    let back = map_back (λ (c : Cell). list_of (cell_values W) W.families c.family) (cells (size W) W.families) k vs (sym (ap (λ ls. slice_get ls k) (lists_by_cell W)) ∙ e) in
    let at = places (size W) W.families k back.0 back.1 in
    let has = fits.values back.0.family back.0.at at.0 in
    ap (λ l. stands l v) (sym back.2)
    ∙ list_stands W (slice_get W.families back.0.family) v
    (ap (may_have W back.0.family) (sym (ap (λ b. cond b (unwrap_or (slice_get w (place_of (size W) W.families back.0.family back.0.at)) Undefined) Undefined) at.0
    ∙ ap (λ n. unwrap_or (slice_get w n) Undefined) at.1 ∙ ap (λ o. unwrap_or o Undefined) f)) ∙ has))

-- The kept part

module _ (M : AbstractMachine) (fired : ℕ) where
  kept_is_node : (k : ℕ) → is_node M.kept k ≡ true → is_node (M.kept + fired) k ≡ true
  kept_is_node k h =
      let ends = and_parts (nat_le 1 k) (nat_le k M.kept) h in
      let high : nat_le k M.kept ≡ true = ends.1 in
      let wide : nat_le k (M.kept + fired) ≡ true = grind (arith, nat_tests, high) in
      ap (λ b. b && nat_le k (M.kept + fired)) ends.0 ∙ wide

  kept_are_nodes : (at : List ℕ) → list_all (is_node M.kept) at ≡ true → list_all (is_node (M.kept + fired)) at ≡ true
  kept_are_nodes [] h = refl
  kept_are_nodes (k ∷ at) h = let parts = and_parts (is_node M.kept k) (list_all (is_node M.kept) at) h in ap (λ b. b && list_all (is_node (M.kept + fired)) at) (kept_is_node k parts.0) ∙ kept_are_nodes at parts.1

  kept_cell : (o : Option CellFamily) (at : List ℕ) → option_map_or (λ (family : CellFamily). nat_eq (length at) family.axes && list_all (is_node M.kept) at) o false ≡ true
      → option_map_or (λ (family : CellFamily). nat_eq (length at) family.axes && list_all (is_node (M.kept + fired)) at) o false ≡ true
  kept_cell None at h = h
  kept_cell (Some g) at h = let parts = and_parts (nat_eq (length at) g.axes) (list_all (is_node M.kept) at) h in ap (λ b. b && list_all (is_node (M.kept + fired)) at) parts.0 ∙ kept_are_nodes at parts.1

  numbers_kept : (at : List ℕ) → map (node_number M.kept) (map Kept at) ≡ at
  numbers_kept [] = refl
  numbers_kept (k ∷ ks) = ap (λ ns. k ∷ ns) (numbers_kept ks)

  of_sort_kept : (s : Sort) (v : AbsValue) → is_of_sort (window M fired) s v ≡ true → is_of_sort (window M 0) s (read_kept v) ≡ true
  of_sort_kept sort.Truth (Truth b) h = h
  of_sort_kept (sort.Range low high) (Number z) h = h
  of_sort_kept (sort.Members kind count) (Member other i) h = h
  of_sort_kept sort.Node (Node (Kept k)) h = h
  of_sort_kept sort.Node (Node (Fired k)) h = refl
  of_sort_kept sort.Node (Node Other) h = refl
  of_sort_kept s v h = absurd cc

  family_kept : (g : CellFamily) (v : AbsValue) → family_may_have (window M fired) g v ≡ true → family_may_have (window M 0) g (read_kept v) ≡ true
  family_kept g Undefined h = h
  family_kept g (Truth b) h = of_sort_kept g.sort (Truth b) h
  family_kept g (Number z) h = of_sort_kept g.sort (Number z) h
  family_kept g (Member k i) h = of_sort_kept g.sort (Member k i) h
  family_kept g (Node (Kept k)) h = of_sort_kept g.sort (Node (Kept k)) h
  family_kept g (Node (Fired k)) h = of_sort_kept g.sort (Node (Fired k)) h
  family_kept g (Node Other) h = of_sort_kept g.sort (Node Other) h

  has_kept : (o : Option CellFamily) (v : AbsValue) → option_map_or (λ (family : CellFamily). family_may_have (window M fired) family v) o false ≡ true → option_map_or (λ (family : CellFamily). family_may_have (window M 0) family (read_kept v)) o false ≡ true
  has_kept None v h = h
  has_kept (Some g) v h = family_kept g v h

  -- the kept part of a state that fits its window fits the kept nodes
  pub kept_fits : ((N : ℕ) (families : List CellFamily) (f : ℕ) (at : List ℕ) → is_cell N families f at ≡ true → slice_get (cells N families) (place_of N families f at) ≡ Some (record { family = f; at = at }))
      → (w : AbsCells) → FitsWindow (window M fired) w → FitsWindow (window M 0) (kept_part (window M fired) w)
  kept_fits there w fits =
      let W : Window = window M fired in
      let fs : List CellFamily = M.machine.families in
      let g : ℕ → List ℕ → AbsValue = λ f at. read_kept (value_at W w f (map Kept at)) in
      let z : M.kept ≡ M.kept + 0 = omega arith in
      let both : (length (kept_part W w) ≡ length (cells (M.kept + 0) fs)) × ((f : ℕ) (at : List ℕ) → is_cell (M.kept + 0) fs f at ≡ true → may_have (window M 0) f (table_value (M.kept + 0) fs Undefined (kept_part W w) f at) ≡ true) =
      subst (λ n. (length (kept_part W w) ≡ length (cells n fs)) × ((f : ℕ) (at : List ℕ) → is_cell n fs f at ≡ true → may_have (window M 0) f (table_value n fs Undefined (kept_part W w) f at) ≡ true)) z (
        length_map (λ (c : Cell). g c.family c.at) (cells M.kept fs),
        λ f at is.
            let wide : is_cell (size W) fs f at ≡ true = kept_cell (slice_get fs f) at is in
            ap (may_have (window M 0) f)
            (ap (λ b. cond b (unwrap_or (slice_get (kept_part W w) (place_of M.kept fs f at)) Undefined) Undefined) is
            ∙ ap (λ o. unwrap_or o Undefined) (get_map (λ (c : Cell). g c.family c.at) (cells M.kept fs) (place_of M.kept fs f at) (record { family = f; at = at }) (there M.kept fs f at is)))
            ∙ has_kept (slice_get fs f) (value_at W w f (map Kept at)) (ap (λ ns. may_have W f (table_value (size W) fs Undefined w f ns)) (numbers_kept at) ∙ fits.values f at wide),
      ) in
      record { count = both.0; values = both.1 }
    where
      get_map : {X Y : Type 0} (f : X → Y) (xs : List X) (n : ℕ) (x : X) → slice_get xs n ≡ Some x → slice_get (map f xs) n ≡ Some (f x)
      get_map f [] n x e = cc
      get_map f (y ∷ xs) zero x e = let s : y ≡ x = cc in ap (λ z. Some (f z)) s
      get_map f (y ∷ xs) (suc n) x e = get_map f xs n x e
