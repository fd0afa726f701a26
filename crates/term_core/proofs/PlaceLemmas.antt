-- Places of cells: within a family, and of families one after another.
use Rattle.std.proofs.Common.{◌≡◌, ℕ, zero, suc, ◌+◌, ◌-◌, ◌*◌, ◌^◌, ◌<◌, ◌≤◌, true, false, ◌&&◌, cond, List, [], ◌∷◌, length, drop, replicate, get_or, Option, Some, None, refl, sym, ap, ◌∙◌, subst, arith}
use Rattle.std.specs.Prelude.{nat_eq, slice_get, unwrap_or}
use Rattle.std.specs.List.{list_all}
use Rattle.std.specs.Option.{option_map_or}
use Rattle.std.proofs.lemmas.Option.{get_or_from_slice_get, slice_get-get_or, slice_get_past}
use Rattle.std.proofs.lemmas.List.{length-append, length-replicate, drop_all}
use Rattle.std.proofs.Math.Seq.{drop-cons}
use Rattle.std.proofs.Math.Nat.{pow-zero, pow-suc, pow-succ', pow-le-pow_right, mul-le-mul_right}
use Rattle.term_core.specs.declared.value.Value.{Value}
use Rattle.term_core.specs.declared.value.Value.TheVariants as v
use Rattle.term_core.specs.declared.machine.CellFamily.{CellFamily}
use Rattle.term_core.specs.Nodes.{is_node, nodes_from}
use Rattle.term_core.specs.Variables.{has_axes}
use Rattle.term_core.specs.Cells.{State, is_cell, first_place, choice_place, cell_value, may_have, family_may_have, blank_value, blank_state}
use Rattle.term_core.specs.Views.{Situation, places_from, cell_count}
use Rattle.term_core.specs.Lists.{nodes_place}

-- the node that stands first among those that are left
pub nodes_more : (first n N : ℕ) → n < N → nodes_from first (N - n) ≡ first ∷ nodes_from (suc first) (N - suc n)
nodes_more first n N h = let e : N - n ≡ suc (N - suc n) = omega arith in ap (nodes_from first) e

pub nodes_none : (first n N : ℕ) → N ≤ n → nodes_from first (N - n) ≡ []
nodes_none first n N h = let e : N - n ≡ zero = omega arith in ap (nodes_from first) e

-- what a node is
pub node_bounds : (N n : ℕ) → is_node N n ≡ true → (1 ≤ n) × (n ≤ N)
node_bounds N n h = (grind arith, grind arith)

-- one more index stays within one more axis
pub lead_bound : (N p n i : ℕ) → p < N ^ i → is_node N n ≡ true → p * N + (n - 1) < N ^ (i + 1)
lead_bound N p n i h node =
    let (low, high) = node_bounds N n node in
    let more : N ^ (i + 1) ≡ N ^ i * N = ap (λ k. N ^ k) (omega arith) ∙ pow-suc N i in
    let wide : suc p * N ≤ N ^ i * N = mul-le-mul_right N (omega arith) in
    let wide' : p * N + N ≤ N ^ i * N = omega (arith, wide) in
    subst (λ m. p * N + (n - 1) < m) (sym more) (omega (arith, wide', low, high))

-- fewer axes have fewer places, where there is a node
pub fewer_axes : (N n i j : ℕ) → is_node N n ≡ true → i ≤ j → N ^ i ≤ N ^ j
fewer_axes N n i j node h = let (low, high) = node_bounds N n node in pow-le-pow_right (omega (arith, low, high)) h

pub lead_fits : (N p n i j : ℕ) → p < N ^ i → is_node N n ≡ true → i < j → N ^ j < 2 ^ 64 → p * N + (n - 1) < 2 ^ 64
lead_fits N p n i j h node less small =
    let a = lead_bound N p n i h node in
    let b = fewer_axes N n (i + 1) j node (omega arith) in
    omega (arith, a, b, small)

-- families one after another: as many first places as families
pub length-places : (N a : ℕ) (fs : List CellFamily) → length (places_from N a fs) ≡ length fs
length-places N a [] = refl
length-places N a (f ∷ fs) = ap suc (length-places N (a + N ^ f.axes) fs)

-- and each is that of its family
pub places_at : (N a : ℕ) (fs : List CellFamily) (k : ℕ) → k < length fs → slice_get (places_from N a fs) k ≡ Some (a + first_place N fs k)
places_at N a [] k h = absurd (omega (arith, h))
places_at N a (f ∷ fs) zero h = ap Some (omega arith)
places_at N a (f ∷ fs) (suc k) h =
    let less : k < length fs = omega (arith, h) in
    places_at N (a + N ^ f.axes) fs k less ∙ ap Some (omega arith)

-- the cells of a family stand within all
pub family_room : (N : ℕ) (fs : List CellFamily) (k count : ℕ) → has_axes fs k count ≡ true → first_place N fs k + N ^ count ≤ cell_count N fs
family_room N [] k count h = cc
family_room N (f ∷ fs) zero count h = let e : count ≡ f.axes = grind arith in subst (λ a. 0 + N ^ a ≤ N ^ f.axes + cell_count N fs) (sym e) (omega arith)
family_room N (f ∷ fs) (suc k) count h = let b = family_room N fs k count h in omega (arith, b)

pub family_known : (fs : List CellFamily) (k count : ℕ) → has_axes fs k count ≡ true → k < length fs
family_known [] k count h = cc
family_known (f ∷ fs) zero count h = omega arith
family_known (f ∷ fs) (suc k) count h = let b = family_known fs k count h in omega (arith, b)

-- whether a family of the list has so many axes
pub has_axes_is : (fs : List CellFamily) (k : ℕ) (f : CellFamily) (count : ℕ) → slice_get fs k ≡ Some f → has_axes fs k count ≡ nat_eq count f.axes
has_axes_is fs k f count h = ap (λ o. option_map_or (λ (family : CellFamily). nat_eq count family.axes) o false) h

pub no_axes : (fs : List CellFamily) (k count : ℕ) → length fs ≤ k → has_axes fs k count ≡ false
no_axes [] k count h = refl
no_axes (f ∷ fs) zero count h = absurd (omega (arith, h))
no_axes (f ∷ fs) (suc k) count h = no_axes fs k count (omega (arith, h))

-- a cell is a choice of nodes for the axes of its family
pub is_cell_is : (N : ℕ) (fs : List CellFamily) (k : ℕ) (at : List ℕ) → is_cell N fs k at ≡ has_axes fs k (length at) && list_all (is_node N) at
is_cell_is N fs k at = go (slice_get fs k)
  where
    go : (o : Option CellFamily) → option_map_or (λ (family : CellFamily). nat_eq (length at) family.axes && list_all (is_node N) at) o false ≡ option_map_or (λ (family : CellFamily). nat_eq (length at) family.axes) o false && list_all (is_node N) at
    go None = refl
    go (Some f) = refl

-- the place of nodes, one after the other
pub nodes_place_is : (N p : ℕ) (ns : List ℕ) → nodes_place N p ns ≡ p * N ^ length ns + choice_place N ns
nodes_place_is N p [] = let e : N ^ length {A = ℕ} [] ≡ 1 = pow-zero N in subst (λ m. p ≡ p * m + 0) (sym e) (omega arith)
nodes_place_is N p (n ∷ ns) =
    let more : N ^ suc (length ns) ≡ N ^ length ns * N = pow-suc N (length ns) in
    nodes_place_is N (p * N + (n - 1)) ns ∙ grind (arith, more)

pub nodes_place_0 : (N : ℕ) (ns : List ℕ) → nodes_place N 0 ns ≡ choice_place N ns
nodes_place_0 N ns = nodes_place_is N 0 ns ∙ omega arith

-- the places of nodes are below their number
pub choice_bound : (N : ℕ) (ns : List ℕ) → list_all (is_node N) ns ≡ true → choice_place N ns < N ^ length ns
choice_bound N [] h = let e : N ^ length {A = ℕ} [] ≡ 1 = pow-zero N in subst (λ m. 0 < m) (sym e) (omega arith)
choice_bound N (n ∷ ns) h =
    let (low, high) = node_bounds N n (grind arith) in
    let more : N ^ suc (length ns) ≡ N * N ^ length ns = pow-succ' N (length ns) in
    let b = choice_bound N ns (grind arith) in
    let wide : suc (n - 1) * N ^ length ns ≤ N * N ^ length ns = mul-le-mul_right (N ^ length ns) (omega (arith, low, high)) in
    let wide' : (n - 1) * N ^ length ns + N ^ length ns ≤ N * N ^ length ns = omega (arith, wide) in
    subst (λ m. (n - 1) * N ^ length ns + choice_place N ns < m) (sym more) (omega (arith, wide', b))

-- before anything is written there is a value for each cell
pub length-blank_state : (N : ℕ) (fs : List CellFamily) → length (blank_state N fs) ≡ cell_count N fs
length-blank_state N [] = refl
length-blank_state N (f ∷ fs) =
    length-append (replicate (N ^ f.axes) (blank_value f)) (blank_state N fs) ∙ ap (λ a. a + length (blank_state N fs)) (length-replicate (N ^ f.axes) (blank_value f)) ∙ ap (λ a. N ^ f.axes + a) (length-blank_state N fs)

-- what is kept of a state in memory, at a family and at a cell of it
pub first_within : (N k : ℕ) (xs firsts : List ℕ) (fs : List CellFamily) → xs ≡ firsts → firsts ≡ places_from N 0 fs → k < length fs → k < length xs
first_within N k xs firsts fs e e' h = subst (λ ys. k < length ys) (sym (e ∙ e')) (subst (λ n. k < n) (sym (length-places N 0 fs)) h)

pub first_is : (N k : ℕ) (xs firsts : List ℕ) (fs : List CellFamily) → xs ≡ firsts → firsts ≡ places_from N 0 fs → k < length fs → get_or xs k 0 ≡ first_place N fs k
first_is N k xs firsts fs e e' h =
    ap (λ ys. get_or ys k 0) (e ∙ e') ∙ get_or_from_slice_get (places_from N 0 fs) k (first_place N fs k) 0 (places_at N 0 fs k h ∙ ap Some (omega arith))

pub axes_within : (fs : List CellFamily) (k : ℕ) (d : CellFamily) (count : ℕ) → k < length fs → nat_eq count (get_or fs k d).axes ≡ has_axes fs k count
axes_within fs k d count h = sym (has_axes_is fs k (get_or fs k d) count (slice_get-get_or fs k d h))

pub axes_past : (fs : List CellFamily) (k count : ℕ) → length fs ≤ k → false ≡ has_axes fs k count
axes_past fs k count h = sym (no_axes fs k count h)

pub room_is : (N k count len : ℕ) (fs : List CellFamily) → has_axes fs k count ≡ true → len ≡ cell_count N fs → first_place N fs k + N ^ count ≤ len
room_is N k count len fs h e = subst (λ n. first_place N fs k + N ^ count ≤ n) (sym e) (family_room N fs k count h)

-- what a cell is
pub cell_axes : (N : ℕ) (fs : List CellFamily) (k : ℕ) (at : List ℕ) → is_cell N fs k at ≡ true → has_axes fs k (length at) ≡ true
cell_axes N fs k at h = let e : has_axes fs k (length at) && list_all (is_node N) at ≡ true = sym (is_cell_is N fs k at) ∙ h in grind (arith, e)

pub cell_nodes : (N : ℕ) (fs : List CellFamily) (k : ℕ) (at : List ℕ) → is_cell N fs k at ≡ true → list_all (is_node N) at ≡ true
cell_nodes N fs k at h = let e : has_axes fs k (length at) && list_all (is_node N) at ≡ true = sym (is_cell_is N fs k at) ∙ h in grind (arith, e)

pub cell_known : (N : ℕ) (fs : List CellFamily) (k : ℕ) (at : List ℕ) → is_cell N fs k at ≡ true → k < length fs
cell_known N fs k at h = family_known fs k (length at) (cell_axes N fs k at h)

pub cell_place : (N : ℕ) (fs : List CellFamily) (k len : ℕ) (at : List ℕ) → is_cell N fs k at ≡ true → first_place N fs k + N ^ length at ≤ len → first_place N fs k + choice_place N at < len
cell_place N fs k len at h room = let b = choice_bound N at (cell_nodes N fs k at h) in omega (arith, b, room)

pub cell_room : (N : ℕ) (fs : List CellFamily) (k len : ℕ) (at : List ℕ) → is_cell N fs k at ≡ true → len ≡ cell_count N fs → first_place N fs k + N ^ length at ≤ len
cell_room N fs k len at h e = room_is N k (length at) len fs (cell_axes N fs k at h) e

pub cell_from : (N : ℕ) (fs : List CellFamily) (k : ℕ) (at : List ℕ) → has_axes fs k (length at) ≡ true → list_all (is_node N) at ≡ is_cell N fs k at
cell_from N fs k at h = ap (λ b. b && list_all (is_node N) at) (sym h) ∙ sym (is_cell_is N fs k at)

pub no_cell_from : (N : ℕ) (fs : List CellFamily) (k : ℕ) (at : List ℕ) → has_axes fs k (length at) ≡ false → false ≡ is_cell N fs k at
no_cell_from N fs k at h = ap (λ b. b && list_all (is_node N) at) (sym h) ∙ sym (is_cell_is N fs k at)

-- the value of a cell, where there is one
pub cell_value_is : (N : ℕ) (fs : List CellFamily) (s : State) (k : ℕ) (at : List ℕ) → is_cell N fs k at ≡ true → cell_value N fs s k at ≡ unwrap_or (slice_get s (first_place N fs k + choice_place N at)) v.Undefined
cell_value_is N fs s k at h = ap (λ b. cond b (unwrap_or (slice_get s (first_place N fs k + choice_place N at)) v.Undefined) v.Undefined) h

pub no_cell_value : (N : ℕ) (fs : List CellFamily) (s : State) (k : ℕ) (at : List ℕ) → is_cell N fs k at ≡ false → v.Undefined ≡ cell_value N fs s k at
no_cell_value N fs s k at h = sym (ap (λ b. cond b (unwrap_or (slice_get s (first_place N fs k + choice_place N at)) v.Undefined) v.Undefined) h)

-- where a state in memory has a cell, and its place is one of the values
pub stored_place : (now : Situation) (n : ℕ) (fs : List CellFamily) (vals : State) (f a b : ℕ) (at : List ℕ) → record { nodes = n; families = fs; values = vals } ≡ now → length vals ≡ cell_count n fs → is_cell now.nodes now.families f at ≡ true → a ≡ first_place now.nodes now.families f → b ≡ choice_place now.nodes at → a + b < length vals
stored_place now n fs vals f a b at e count h a_is b_is =
    let room = cell_room now.nodes now.families f (length vals) at h (count ∙ ap (λ (s : Situation). cell_count s.nodes s.families) e) in
    let p = cell_place now.nodes now.families f (length vals) at h room in
    omega (arith, p, a_is, b_is)

-- whether the cells of a family may have a value
pub may_have_within : (N : ℕ) (fs : List CellFamily) (k : ℕ) (d : CellFamily) (x : Value) → k < length fs → family_may_have N (get_or fs k d) x ≡ may_have N fs k x
may_have_within N fs k d x h = sym (ap (λ o. option_map_or (λ (family : CellFamily). family_may_have N family x) o false) (slice_get-get_or fs k d h))

pub may_have_past : (N : ℕ) (fs : List CellFamily) (k : ℕ) (x : Value) → length fs ≤ k → false ≡ may_have N fs k x
may_have_past N fs k x h = sym (ap (λ o. option_map_or (λ (family : CellFamily). family_may_have N family x) o false) (slice_get_past fs k h))

-- the first of the nodes that are left
pub node_left : (N i : ℕ) (at : List ℕ) → list_all (is_node N) (drop i at) ≡ true → i < length at → is_node N (get_or at i 0) ≡ true
node_left N i at h less = let e : list_all (is_node N) (get_or at i 0 ∷ drop (suc i) at) ≡ true = subst (λ xs. list_all (is_node N) xs ≡ true) (drop-cons at i 0 less) h in grind (arith, e)

-- where no node is left the place is that of all
pub place_ends : (N place i : ℕ) (at : List ℕ) → length at ≤ i → nodes_place N place (drop i at) ≡ nodes_place N 0 at → place ≡ choice_place N at
place_ends N place i at h e = sym (ap (nodes_place N place) (drop_all i at h)) ∙ e ∙ nodes_place_0 N at

pub ruleset places = (first_within, first_is, axes_within, axes_past, may_have_within, may_have_past, room_is, cell_nodes, cell_known, cell_place, cell_room, cell_from, no_cell_from, cell_value_is, no_cell_value, nodes_place_0, lead_bound, lead_fits, length-blank_state)
