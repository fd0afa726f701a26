-- The place of a cell is where it stands among the cells.
use Rattle.std.proofs.Common.{◌≡◌, ℕ, zero, suc, ◌+◌, ◌-◌, ◌*◌, ◌^◌, ◌<◌, ◌≤◌, true, List, [], ◌∷◌, ◌++◌, length, map, replicate, Some, refl, sym, ap, ◌∙◌, subst, arith}
use Rattle.std.specs.Prelude.{nat_eq, slice_get, unwrap_or}
use Rattle.std.specs.List.{list_all, flat_map}
use Rattle.std.specs.Option.{option_map}
use Rattle.std.proofs.lemmas.Option.{slice_get-map}
use Rattle.std.proofs.lemmas.List.{length-append, length-map, length-replicate}
use Rattle.std.proofs.Math.Nat.{pow-zero, pow-succ'}
use Rattle.term_core.specs.declared.value.Value.TheVariants as v
use Rattle.term_core.specs.declared.machine.CellFamily.{CellFamily}
use Rattle.term_core.specs.Nodes.{is_node, nodes_from, choices}
use Rattle.term_core.specs.Cells.{Cell, cells, cells_from, is_cell, first_place, choice_place, place_of, cell_value, blank_value, blank_state}
use Rattle.term_core.proofs.FrameLemmas.{get_first, get_past}
use Rattle.term_core.proofs.PlaceLemmas.{node_bounds, choice_bound, cell_axes, cell_nodes, cell_value_is}

-- lists of one length, one after another
length-blocks : {X : Type 0} (g : ℕ → List X) (len first count : ℕ) → ((n : ℕ) → length (g n) ≡ len) → length (flat_map g (nodes_from first count)) ≡ count * len
length-blocks g len first zero each = omega arith
length-blocks g len first (suc count) each =
    length-append (g first) (flat_map g (nodes_from (suc first) count))
    ∙ ap (λ m. m + length (flat_map g (nodes_from (suc first) count))) (each first)
    ∙ ap (λ m. len + m) (length-blocks g len (suc first) count each)
    ∙ omega arith

-- the place j of the k-th of them
block_at : {X : Type 0} (g : ℕ → List X) (len first count k j : ℕ) → ((n : ℕ) → length (g n) ≡ len) → k < count → j < len → slice_get (flat_map g (nodes_from first count)) (k * len + j) ≡ slice_get (g (first + k)) j
block_at g len first zero k j each less within = absurd (omega (arith, less))
block_at g len first (suc count) zero j each less within =
    let here : j < length (g first) = subst (λ m. j < m) (sym (each first)) within in
    ap (slice_get (g first ++ flat_map g (nodes_from (suc first) count))) (omega arith)
    ∙ get_first (g first) (flat_map g (nodes_from (suc first) count)) j here
    ∙ ap (λ n. slice_get (g n) j) (omega arith)
block_at g len first (suc count) (suc k) j each less within =
    let past : length (g first) ≤ suc k * len + j = subst (λ m. m ≤ suc k * len + j) (sym (each first)) (omega arith) in
    get_past (g first) (flat_map g (nodes_from (suc first) count)) (suc k * len + j) past
    ∙ ap (λ m. slice_get (flat_map g (nodes_from (suc first) count)) (suc k * len + j - m)) (each first)
    ∙ ap (slice_get (flat_map g (nodes_from (suc first) count))) (omega arith)
    ∙ block_at g len (suc first) count k j each (omega (arith, less)) within
    ∙ ap (λ n. slice_get (g n) j) (omega arith)

-- there are as many choices as places for them
pub length-choices : (N count : ℕ) → length (choices N count) ≡ N ^ count
length-choices N zero = sym (pow-zero N)
length-choices N (suc count) =
    length-blocks (λ n. map (λ ns. n ∷ ns) (choices N count)) (N ^ count) 1 N (λ n. length-map (choices N count) (λ ns. n ∷ ns) ∙ length-choices N count)
    ∙ sym (pow-succ' N count)

-- and each stands at its place
pub choice_at : (N : ℕ) (ns : List ℕ) → list_all (is_node N) ns ≡ true → slice_get (choices N (length ns)) (choice_place N ns) ≡ Some ns
choice_at N [] h = refl
choice_at N (n ∷ ns) h =
    let (low, high) = node_bounds N n (grind (arith, h)) in
    let rest : list_all (is_node N) ns ≡ true = grind (arith, h) in
    let g : ℕ → List (List ℕ) = λ m. map (λ ms. m ∷ ms) (choices N (length ns)) in
    let each : (m : ℕ) → length (g m) ≡ N ^ length ns = λ m. length-map (choices N (length ns)) (λ ms. m ∷ ms) ∙ length-choices N (length ns) in
    let this : 1 + (n - 1) ≡ n = omega (arith, low) in
    block_at g (N ^ length ns) 1 N (n - 1) (choice_place N ns) each (omega (arith, low, high)) (choice_bound N ns rest)
    ∙ ap (λ m. slice_get (g m) (choice_place N ns)) this
    ∙ slice_get-map (λ ms. n ∷ ms) (choices N (length ns)) (choice_place N ns)
    ∙ ap (option_map (λ ms. n ∷ ms)) (choice_at N ns rest)

pub choice_there : (N count : ℕ) (ns : List ℕ) → length ns ≡ count → list_all (is_node N) ns ≡ true → slice_get (choices N count) (choice_place N ns) ≡ Some ns
choice_there N count ns long are = ap (λ m. slice_get (choices N m) (choice_place N ns)) (sym long) ∙ choice_at N ns are

-- the place of a cell among the cells of families, of which the first has this number
cell_at_place : (N first : ℕ) (fs : List CellFamily) (k : ℕ) (at : List ℕ) → is_cell N fs k at ≡ true → slice_get (cells_from N first fs) (first_place N fs k + choice_place N at) ≡ Some (record { family = first + k; at = at })
cell_at_place N first [] k at h = cc
cell_at_place N first (f ∷ fs) zero at h =
    let axes : length at ≡ f.axes = grind (arith, cell_axes N (f ∷ fs) 0 at h) in
    let all = cell_nodes N (f ∷ fs) 0 at h in
    let mk : List ℕ → Cell = λ ns. record { family = first; at = ns } in
    let bound : choice_place N at < length (map mk (choices N f.axes)) = subst (λ m. choice_place N at < m) (ap (λ m. N ^ m) axes ∙ sym (length-map (choices N f.axes) mk ∙ length-choices N f.axes)) (choice_bound N at all) in
    ap (slice_get (map mk (choices N f.axes) ++ cells_from N (suc first) fs)) (omega arith)
    ∙ get_first (map mk (choices N f.axes)) (cells_from N (suc first) fs) (choice_place N at) bound
    ∙ slice_get-map mk (choices N f.axes) (choice_place N at)
    ∙ ap (λ m. option_map mk (slice_get (choices N m) (choice_place N at))) (sym axes)
    ∙ ap (option_map mk) (choice_at N at all)
    ∙ ap (λ m. Some (record { family = m; at = at })) (omega arith)
cell_at_place N first (f ∷ fs) (suc k) at h =
    let mk : List ℕ → Cell = λ ns. record { family = first; at = ns } in
    let len : length (map mk (choices N f.axes)) ≡ N ^ f.axes = length-map (choices N f.axes) mk ∙ length-choices N f.axes in
    let past : length (map mk (choices N f.axes)) ≤ N ^ f.axes + first_place N fs k + choice_place N at = subst (λ m. m ≤ N ^ f.axes + first_place N fs k + choice_place N at) (sym len) (omega arith) in
    get_past (map mk (choices N f.axes)) (cells_from N (suc first) fs) (N ^ f.axes + first_place N fs k + choice_place N at) past
    ∙ ap (λ m. slice_get (cells_from N (suc first) fs) (N ^ f.axes + first_place N fs k + choice_place N at - m)) len
    ∙ ap (slice_get (cells_from N (suc first) fs)) (omega arith)
    ∙ cell_at_place N (suc first) fs k at h
    ∙ ap (λ m. Some (record { family = m; at = at })) (omega arith)

-- a cell stands at its place
pub places : (N : ℕ) (fs : List CellFamily) (f : ℕ) (at : List ℕ) → is_cell N fs f at ≡ true → slice_get (cells N fs) (place_of N fs f at) ≡ Some (record { family = f; at = at })
places N fs f at h = cell_at_place N 0 fs f at h ∙ ap (λ m. Some (record { family = m; at = at })) (omega arith)

-- two cells at one place are one
pub one_cell : (N : ℕ) (fs : List CellFamily) (f g : ℕ) (at other : List ℕ) → is_cell N fs f at ≡ true → is_cell N fs g other ≡ true → nat_eq (place_of N fs g other) (place_of N fs f at) ≡ true → (f ≡ g) × (at ≡ other)
one_cell N fs f g at other h k was =
    let e : place_of N fs f at ≡ place_of N fs g other = grind (arith, was) in
    let one : Some (record { family = f; at = at }) ≡ Some (record { family = g; at = other }) = sym (places N fs f at h) ∙ ap (slice_get (cells N fs)) e ∙ places N fs g other k in
    let c = some_is one in
    (ap (λ (d : Cell). d.family) c, ap (λ (d : Cell). d.at) c)
  where
    some_is : {a b : Cell} → Some a ≡ Some b → a ≡ b
    some_is e = cc

get_replicate : {X : Type 0} (x : X) (n k : ℕ) → k < n → slice_get (replicate n x) k ≡ Some x
get_replicate x zero k h = absurd (omega (arith, h))
get_replicate x (suc n) zero h = refl
get_replicate x (suc n) (suc k) h = get_replicate x n k (omega (arith, h))

blank_at : (N : ℕ) (fs : List CellFamily) (f : CellFamily) (k : ℕ) (at : List ℕ) → slice_get fs k ≡ Some f → is_cell N fs k at ≡ true → slice_get (blank_state N fs) (first_place N fs k + choice_place N at) ≡ Some (blank_value f)
blank_at N [] f k at e h = cc
blank_at N (g ∷ fs) f zero at e h =
    let axes : length at ≡ g.axes = grind (arith, cell_axes N (g ∷ fs) 0 at h) in
    let all = cell_nodes N (g ∷ fs) 0 at h in
    let bound : choice_place N at < N ^ g.axes = subst (λ m. choice_place N at < N ^ m) axes (choice_bound N at all) in
    let same : g ≡ f = cc in
    ap (slice_get (replicate (N ^ g.axes) (blank_value g) ++ blank_state N fs)) (omega arith)
    ∙ get_first (replicate (N ^ g.axes) (blank_value g)) (blank_state N fs) (choice_place N at) (subst (λ m. choice_place N at < m) (sym (length-replicate (N ^ g.axes) (blank_value g))) bound)
    ∙ get_replicate (blank_value g) (N ^ g.axes) (choice_place N at) bound
    ∙ ap (λ x. Some (blank_value x)) same
blank_at N (g ∷ fs) f (suc k) at e h =
    let len = length-replicate (N ^ g.axes) (blank_value g) in
    let past : length (replicate (N ^ g.axes) (blank_value g)) ≤ N ^ g.axes + first_place N fs k + choice_place N at = subst (λ m. m ≤ N ^ g.axes + first_place N fs k + choice_place N at) (sym len) (omega arith) in
    get_past (replicate (N ^ g.axes) (blank_value g)) (blank_state N fs) (N ^ g.axes + first_place N fs k + choice_place N at) past
    ∙ ap (λ m. slice_get (blank_state N fs) (N ^ g.axes + first_place N fs k + choice_place N at - m)) len
    ∙ ap (slice_get (blank_state N fs)) (omega arith)
    ∙ blank_at N fs f k at e h

-- before anything is written a cell is blank
pub blank_cell : (N : ℕ) (fs : List CellFamily) (family : CellFamily) (f : ℕ) (at : List ℕ) → slice_get fs f ≡ Some family → is_cell N fs f at ≡ true → cell_value N fs (blank_state N fs) f at ≡ blank_value family
blank_cell N fs family f at e h = cell_value_is N fs (blank_state N fs) f at h ∙ ap (λ o. unwrap_or o v.Undefined) (blank_at N fs family f at e h)
