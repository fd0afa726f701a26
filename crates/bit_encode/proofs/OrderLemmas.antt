-- The cells of a window stand in the order of their places, so a state is the list of the values at the cells.
use Rattle.std.proofs.Common.{◌≡◌, ℕ, zero, suc, ◌+◌, ◌-◌, ◌*◌, ◌^◌, ◌≤◌, Bool, true, false, cond, ◌&&◌, List, [], ◌∷◌, ◌++◌, length, map, get_or, Some, refl, sym, ◌∙◌, ap, subst, arith}
use Rattle.std.specs.Prelude.{slice_get, unwrap_or, nat_eq, nat_le, ℤ, pos, negsuc}
use Rattle.std.specs.List.{flat_map, list_all}
use Rattle.std.specs.Option.{option_map_or}
use Rattle.std.proofs.Math.Nat.{pow-zero, pow-suc}
use Rattle.std.proofs.lemmas.Bool.{and_parts}
use Rattle.std.proofs.lemmas.Bool.Decides.{nat_tests}
use Rattle.term_core.specs.declared.machine.CellFamily.{CellFamily}
use Rattle.term_core.specs.Nodes.{nodes, nodes_from, is_node}
use Rattle.term_core.specs.Values.{same_truth, same_number}
use Rattle.term_core.specs.Cells.{is_cell, first_place, place_of}
use Rattle.other_abstract.specs.declared.node.AbsNode.{AbsNode}
use Rattle.other_abstract.specs.declared.node.AbsNode.TheVariants.{Kept, Fired, Other}
use Rattle.other_abstract.specs.declared.value.AbsValue.{AbsValue}
use Rattle.other_abstract.specs.declared.value.AbsValue.TheVariants.{Undefined, Truth, Number, Member, Node}
use Rattle.other_abstract.specs.declared.place.Place.{Place}
use Rattle.other_abstract.specs.Windows.{Window, size, node_number, same_value, same_node}
use Rattle.other_abstract.specs.May.{AbsCells, value_at}
use Rattle.other_abstract.specs.Tests.{window_nodes, lists_of}
use Rattle.other_abstract.specs.Lists.{choices_before}
use Rattle.other_abstract.specs.Places.{places, places_in}
use Rattle.term_core.specs.declared.machine.TermRule.{TermRule}
use Rattle.other_abstract.specs.declared.machine.AbstractMachine.{AbstractMachine}
use Rattle.other_abstract.specs.Tests.{passes, may}
use Rattle.other_abstract.specs.Machines.{window, fired_of}
use Rattle.other_abstract.specs.Stepping.{same_values, kept_value, all_may_hold, becomes, is_step}
use Rattle.circuit_core.specs.declared.edge.Edge.{Edge}
use Rattle.circuit_core.specs.Network.{Network}
use Rattle.bit_encode.specs.declared.set.Possible.{Possible}
use Rattle.bit_encode.specs.MaySets.{Agrees}
use Rattle.bit_encode.specs.Codes.{width, cell_values, cell_lists, coded_state, is_legal}
use Rattle.bit_encode.specs.Coding.{AreCoded}
use Rattle.bit_encode.specs.Steps.{TellsSides, fires}
use Rattle.bit_encode.specs.Leads.{numbers_of}
use Rattle.bit_encode.proofs.PlacingLemmas.{choices_from_0}
use Rattle.bit_encode.proofs.WindowLemmas.{map_append, map_map, length_append, length_map, count_lists, window_size, lists_by_place}
use Rattle.bit_encode.proofs.CellLemmas.{code_shows}

-- numbers in order
numbers_join : (a p q : ℕ) → nodes_from a p ++ nodes_from (a + p) q ≡ nodes_from a (p + q)
numbers_join a zero q = let e : a + zero ≡ a = omega arith in let f : zero + q ≡ q = omega arith in ap (λ k. nodes_from k q) e ∙ sym (ap (nodes_from a) f)
numbers_join a (suc p) q =
    let e : a + suc p ≡ suc a + p = omega arith in
    let f : suc p + q ≡ suc (p + q) = omega arith in
    ap (λ r. a ∷ r) (ap (λ k. nodes_from (suc a) p ++ nodes_from k q) e ∙ numbers_join (suc a) p q) ∙ sym (ap (nodes_from a) f)

numbers_shift : (m a n : ℕ) → map (λ k. m + k) (nodes_from a n) ≡ nodes_from (m + a) n
numbers_shift m a zero = refl
numbers_shift m a (suc n) = let e : m + suc a ≡ suc (m + a) = omega arith in ap (λ r. (m + a) ∷ r) (numbers_shift m (suc a) n ∙ ap (λ k. nodes_from k n) e)

map_self : (xs : List ℕ) → map (λ k. k) xs ≡ xs
map_self [] = refl
map_self (x ∷ xs) = ap (λ r. x ∷ r) (map_self xs)

-- the nodes of a window are numbered in order
pub window_numbers : (W : Window) → map (node_number W.kept) (window_nodes W) ≡ nodes_from 1 (size W)
window_numbers W =
    map_append (node_number W.kept) (map Kept (nodes W.kept)) (map Fired (nodes W.fired))
    ∙ ap (λ r. r ++ map (node_number W.kept) (map Fired (nodes W.fired))) (map_map (node_number W.kept) Kept (nodes W.kept) ∙ map_self (nodes W.kept))
    ∙ ap (λ r. nodes W.kept ++ r) (map_map (node_number W.kept) Fired (nodes W.fired) ∙ numbers_shift W.kept 1 W.fired ∙ ap (λ k. nodes_from k W.fired) (swap W.kept))
    ∙ numbers_join 1 W.kept W.fired
  where
    swap : (m : ℕ) → m + 1 ≡ 1 + m
    swap m = omega arith

-- the choices of nodes stand in order
module _ (N m : ℕ) where
  headed_places : (P c before : ℕ) (L : List (List AbsNode)) → ((b : ℕ) → map (choices_before N m b) L ≡ nodes_from (b * P) P) → (ns : List AbsNode) (s count : ℕ) → map (node_number m) ns ≡ nodes_from (suc s) count
      → map (choices_before N m before) (flat_map (λ n. map (λ (rest : List AbsNode). n ∷ rest) L) ns) ≡ nodes_from ((before * N + s) * P) (count * P)
  headed_places P c before L each [] s zero e = let z : zero * P ≡ zero = grind arith in sym (ap (nodes_from ((before * N + s) * P)) z)
  headed_places P c before L each [] s (suc count) e = cc
  headed_places P c before L each (n ∷ ns) s zero e = cc
  headed_places P c before L each (n ∷ ns) s (suc count) e =
      let at : node_number m n ≡ suc s = cc in
      let rest : map (node_number m) ns ≡ nodes_from (suc (suc s)) count = cc in
      map_append (choices_before N m before) (map (λ (r : List AbsNode). n ∷ r) L) (flat_map (λ n. map (λ (r : List AbsNode). n ∷ r) L) ns)
      ∙ ap (λ r. r ++ map (choices_before N m before) (flat_map (λ n. map (λ (r : List AbsNode). n ∷ r) L) ns))
      (map_map (choices_before N m before) (λ (r : List AbsNode). n ∷ r) L ∙ ap (λ k. map (choices_before N m (before * N + (k - 1))) L) at ∙ one s)
      ∙ ap (λ r. nodes_from ((before * N + s) * P) P ++ r) (headed_places P c before L each ns (suc s) count rest ∙ ap (λ k. nodes_from k (count * P)) (next before s))
      ∙ numbers_join ((before * N + s) * P) P (count * P) ∙ ap (nodes_from ((before * N + s) * P)) (total count)
    where
      one : (s : ℕ) → map (choices_before N m (before * N + (suc s - 1))) L ≡ nodes_from ((before * N + s) * P) P
      one s = let e : suc s - 1 ≡ s = omega arith in ap (λ k. map (choices_before N m (before * N + k)) L) e ∙ each (before * N + s)

      next : (before s : ℕ) → (before * N + suc s) * P ≡ (before * N + s) * P + P
      next before s = grind arith

      total : (count : ℕ) → P + count * P ≡ suc count * P
      total count = grind arith

  pub choices_in_order : (ns : List AbsNode) → map (node_number m) ns ≡ nodes_from 1 N → (c before : ℕ) → map (choices_before N m before) (lists_of ns c) ≡ nodes_from (before * N ^ c) (N ^ c)
  choices_in_order ns e zero before = let z : N ^ zero ≡ 1 = pow-zero N in subst (λ k. before ∷ [] ≡ nodes_from (before * k) k) (sym z) (let f : before ≡ before * 1 = grind arith in ap (λ k. k ∷ []) f)
  choices_in_order ns e (suc c) before =
      headed_places (N ^ c) c before (lists_of ns c) (choices_in_order ns e c) ns 0 N e
      ∙ ap (λ k. nodes_from k (N * N ^ c)) (first (N ^ c) (N ^ suc c) (pow-suc N c)) ∙ ap (nodes_from (before * N ^ suc c)) (all (N ^ c) (N ^ suc c) (pow-suc N c))
    where
      first : (P Q : ℕ) → Q ≡ P * N → (before * N + 0) * P ≡ before * Q
      first P Q h = grind (arith, h)

      all : (P Q : ℕ) → Q ≡ P * N → N * P ≡ Q
      all P Q h = grind (arith, h)

-- places of the cells of one family, and of all
module _ (W : Window) where
  one_family : (all : List CellFamily) (first c : ℕ)
      → map (λ (place : Place). place_of (size W) all place.family (numbers_of W place.at)) (map (λ (at : List AbsNode). record { family = first; at = at }) (lists_of (window_nodes W) c))
      ≡ nodes_from (first_place (size W) all first) (size W ^ c)
  one_family all first c =
      let A : ℕ = first_place (size W) all first in
      map_map (λ (place : Place). place_of (size W) all place.family (numbers_of W place.at)) (λ (at : List AbsNode). record { family = first; at = at }) (lists_of (window_nodes W) c)
      ∙ ap (λ g. map g (lists_of (window_nodes W) c)) (λ i at. A + sym (choices_from_0 (size W) W.kept at) i)
      ∙ sym (map_map (λ k. A + k) (choices_before (size W) W.kept 0) (lists_of (window_nodes W) c))
      ∙ ap (map (λ k. A + k)) (choices_in_order (size W) W.kept (window_nodes W) (window_numbers W) c 0 ∙ ap (λ k. nodes_from k (size W ^ c)) (zero_times (size W ^ c)))
      ∙ numbers_shift A 0 (size W ^ c) ∙ ap (λ k. nodes_from k (size W ^ c)) (plus_zero A)
    where
      zero_times : (P : ℕ) → 0 * P ≡ 0
      zero_times P = grind arith

      plus_zero : (A : ℕ) → A + 0 ≡ A
      plus_zero A = omega arith

  next_family : (N : ℕ) (gs fs : List CellFamily) (f : CellFamily) → first_place N (gs ++ f ∷ fs) (suc (length gs)) ≡ first_place N (gs ++ f ∷ fs) (length gs) + N ^ f.axes
  next_family N [] [] f = let e : N ^ f.axes + 0 ≡ 0 + N ^ f.axes = omega arith in e
  next_family N [] (g ∷ fs) f = let e : N ^ f.axes + 0 ≡ 0 + N ^ f.axes = omega arith in e
  next_family N (g ∷ gs) fs f = ap (λ k. N ^ g.axes + k) (next_family N gs fs f) ∙ assoc (N ^ g.axes) (first_place N (gs ++ f ∷ fs) (length gs)) (N ^ f.axes)
    where
      assoc : (a b c : ℕ) → a + (b + c) ≡ a + b + c
      assoc a b c = omega arith

  shifted : (gs fs : List CellFamily) (f : CellFamily) → gs ++ f ∷ fs ≡ (gs ++ f ∷ []) ++ fs
  shifted [] fs f = refl
  shifted (g ∷ gs) fs f = ap (λ r. g ∷ r) (shifted gs fs f)

  longer : (gs : List CellFamily) (f : CellFamily) → length (gs ++ f ∷ []) ≡ suc (length gs)
  longer [] f = refl
  longer (g ∷ gs) f = ap suc (longer gs f)

  families_in_order : (gs fs : List CellFamily) (first : ℕ) → first ≡ length gs
      → map (λ (place : Place). place_of (size W) (gs ++ fs) place.family (numbers_of W place.at)) (places_in (window_nodes W) first fs)
      ≡ nodes_from (first_place (size W) (gs ++ fs) first) (length (places_in (window_nodes W) first fs))
  families_in_order gs [] first e = refl
  families_in_order gs (f ∷ fs) first e =
      let all : List CellFamily = gs ++ f ∷ fs in
      let here : List Place = map (λ (at : List AbsNode). record { family = first; at = at }) (lists_of (window_nodes W) f.axes) in
      let there : List Place = places_in (window_nodes W) (suc first) fs in
      let P : ℕ = size W ^ f.axes in
      map_append (λ (place : Place). place_of (size W) all place.family (numbers_of W place.at)) here there
      ∙ ap (λ r. r ++ map (λ (place : Place). place_of (size W) all place.family (numbers_of W place.at)) there) (one_family all first f.axes)
      ∙ ap (λ r. nodes_from (first_place (size W) all first) P ++ r)
      (ap (λ l. map (λ (place : Place). place_of (size W) l place.family (numbers_of W place.at)) there) (shifted gs fs f)
      ∙ families_in_order (gs ++ f ∷ []) fs (suc first) (ap suc e ∙ sym (longer gs f))
      ∙ ap (λ l. nodes_from (first_place (size W) l (suc first)) (length there)) (sym (shifted gs fs f))
      ∙ ap (λ k. nodes_from k (length there)) (ap (λ k. first_place (size W) all (suc k)) e ∙ next_family (size W) gs fs f ∙ ap (λ k. first_place (size W) all k + P) (sym e)))
      ∙ numbers_join (first_place (size W) all first) P (length there)
      ∙ ap (nodes_from (first_place (size W) all first)) (sym (length_append here there ∙ ap (λ k. k + length there) (length_map (λ (at : List AbsNode). record { family = first; at = at }) (lists_of (window_nodes W) f.axes) ∙ count_lists (window_nodes W) f.axes ∙ ap (λ k. k ^ f.axes) (window_size W))))

  pub places_in_order : map (λ (place : Place). place_of (size W) W.families place.family (numbers_of W place.at)) (places W) ≡ nodes_from 0 (length (places W))
  places_in_order = families_in_order [] W.families 0 refl ∙ ap (λ k. nodes_from k (length (places W))) (none_before (size W) W.families)
    where
      none_before : (N : ℕ) (fs : List CellFamily) → first_place N fs 0 ≡ 0
      none_before N [] = refl
      none_before N (f ∷ fs) = refl

-- each place is that of a cell
pub all_append : {X : Type 0} (p : X → Bool) (xs ys : List X) → list_all p xs ≡ true → list_all p ys ≡ true → list_all p (xs ++ ys) ≡ true
all_append p [] ys h k = k
all_append p (x ∷ xs) ys h k = let parts = and_parts (p x) (list_all p xs) h in ap (λ b. b && list_all p (xs ++ ys)) parts.0 ∙ all_append p xs ys parts.1 k

pub all_map : {X Y : Type 0} (p : Y → Bool) (q : X → Bool) (f : X → Y) (xs : List X) → ((x : X) → p (f x) ≡ q x) → list_all q xs ≡ true → list_all p (map f xs) ≡ true
all_map p q f [] same h = refl
all_map p q f (x ∷ xs) same h = let parts = and_parts (q x) (list_all q xs) h in ap (λ b. b && list_all p (map f xs)) (same x ∙ parts.0) ∙ all_map p q f xs same parts.1

all_over : {X Y : Type 0} (p : Y → Bool) (f : X → Y) (xs : List X) → list_all p (map f xs) ≡ list_all (λ x. p (f x)) xs
all_over p f [] = refl
all_over p f (x ∷ xs) = ap (λ b. p (f x) && b) (all_over p f xs)

pub numbers_are_nodes : (N s count : ℕ) → s + count ≤ N → list_all (is_node N) (nodes_from (suc s) count) ≡ true
numbers_are_nodes N s zero h = refl
numbers_are_nodes N s (suc count) h =
    let here : is_node N (suc s) ≡ true = inside N s count h in
    ap (λ b. b && list_all (is_node N) (nodes_from (suc (suc s)) count)) here ∙ numbers_are_nodes N (suc s) count (omega (arith, h))
  where
    both : (a b : Bool) → a ≡ true → b ≡ true → (a && b) ≡ true
    both a b e f = ap (λ c. c && b) e ∙ f

    inside : (N s count : ℕ) → s + suc count ≤ N → is_node N (suc s) ≡ true
    inside N s count h = both (nat_le 1 (suc s)) (nat_le (suc s) N) (grind (arith, nat_tests)) (grind (arith, nat_tests, h))

module _ (W : Window) where
  nodes_are : list_all (λ n. is_node (size W) (node_number W.kept n)) (window_nodes W) ≡ true
  nodes_are = sym (all_over (is_node (size W)) (node_number W.kept) (window_nodes W)) ∙ ap (list_all (is_node (size W))) (window_numbers W) ∙ numbers_are_nodes (size W) 0 (size W) (omega arith)

  abbrev is_choice : ℕ → List AbsNode → Bool
  is_choice c at = nat_eq (length (numbers_of W at)) c && list_all (is_node (size W)) (numbers_of W at)

  headed_choice : (c : ℕ) (n : AbsNode) (at : List AbsNode) → is_node (size W) (node_number W.kept n) ≡ true → is_choice (suc c) (n ∷ at) ≡ is_choice c at
  headed_choice c n at is =
      ap (λ b. nat_eq (suc (length (numbers_of W at))) (suc c) && (b && list_all (is_node (size W)) (numbers_of W at))) is
      ∙ ap (λ b. b && list_all (is_node (size W)) (numbers_of W at)) (same (length (numbers_of W at)) c)
    where
      same : (a b : ℕ) → nat_eq (suc a) (suc b) ≡ nat_eq a b
      same a b = grind (arith, nat_tests)

  headed_choices : (c : ℕ) (L : List (List AbsNode)) → list_all (is_choice c) L ≡ true → (ns : List AbsNode) → list_all (λ n. is_node (size W) (node_number W.kept n)) ns ≡ true
      → list_all (is_choice (suc c)) (flat_map (λ n. map (λ (rest : List AbsNode). n ∷ rest) L) ns) ≡ true
  headed_choices c L h [] k = refl
  headed_choices c L h (n ∷ ns) k =
      let parts = and_parts (is_node (size W) (node_number W.kept n)) (list_all (λ n. is_node (size W) (node_number W.kept n)) ns) k in
      all_append (is_choice (suc c)) (map (λ (rest : List AbsNode). n ∷ rest) L) (flat_map (λ n. map (λ (rest : List AbsNode). n ∷ rest) L) ns)
      (all_map (is_choice (suc c)) (is_choice c) (λ (rest : List AbsNode). n ∷ rest) L (λ at. headed_choice c n at parts.0) h)
      (headed_choices c L h ns parts.1)

  choices_are_cells : (c : ℕ) → list_all (is_choice c) (lists_of (window_nodes W) c) ≡ true
  choices_are_cells zero = refl
  choices_are_cells (suc c) = headed_choices c (lists_of (window_nodes W) c) (choices_are_cells c) (window_nodes W) nodes_are

  got_family : (gs fs : List CellFamily) (f : CellFamily) (k : ℕ) → k ≡ length gs → slice_get (gs ++ f ∷ fs) k ≡ Some f
  got_family [] fs f k e = ap (slice_get (f ∷ fs)) e
  got_family (g ∷ gs) fs f zero e = absurd (omega (arith, e))
  got_family (g ∷ gs) fs f (suc k) e = got_family gs fs f k (omega (arith, e))

  families_are_cells : (gs fs : List CellFamily) (first : ℕ) → first ≡ length gs → list_all (λ (place : Place). is_cell (size W) (gs ++ fs) place.family (numbers_of W place.at)) (places_in (window_nodes W) first fs) ≡ true
  families_are_cells gs [] first e = refl
  families_are_cells gs (f ∷ fs) first e =
      all_append (λ (place : Place). is_cell (size W) (gs ++ f ∷ fs) place.family (numbers_of W place.at)) (map (λ (at : List AbsNode). record { family = first; at = at }) (lists_of (window_nodes W) f.axes)) (places_in (window_nodes W) (suc first) fs)
      (all_map (λ (place : Place). is_cell (size W) (gs ++ f ∷ fs) place.family (numbers_of W place.at)) (is_choice f.axes) (λ (at : List AbsNode). record { family = first; at = at }) (lists_of (window_nodes W) f.axes)
      (λ at. ap (λ o. option_map_or (λ (family : CellFamily). nat_eq (length (numbers_of W at)) family.axes && list_all (is_node (size W)) (numbers_of W at)) o false) (got_family gs fs f first e)) (choices_are_cells f.axes))
      (ap (λ l. list_all (λ (place : Place). is_cell (size W) l place.family (numbers_of W place.at)) (places_in (window_nodes W) (suc first) fs)) (shifted W gs fs f)
      ∙ families_are_cells (gs ++ f ∷ []) fs (suc first) (ap suc e ∙ sym (longer W gs f)))

  values_there : (s : AbsCells) (ps : List Place) → list_all (λ (place : Place). is_cell (size W) W.families place.family (numbers_of W place.at)) ps ≡ true
      → map (λ (place : Place). value_at W s place.family place.at) ps ≡ map (λ k. unwrap_or (slice_get s k) Undefined) (map (λ (place : Place). place_of (size W) W.families place.family (numbers_of W place.at)) ps)
  values_there s [] h = refl
  values_there s (q ∷ ps) h =
      let parts = and_parts (is_cell (size W) W.families q.family (numbers_of W q.at)) (list_all (λ (place : Place). is_cell (size W) W.families place.family (numbers_of W place.at)) ps) h in
      ap (λ b. cond b (unwrap_or (slice_get s (place_of (size W) W.families q.family (numbers_of W q.at))) Undefined) Undefined ∷ map (λ (place : Place). value_at W s place.family place.at) ps) parts.0
      ∙ ap (λ r. unwrap_or (slice_get s (place_of (size W) W.families q.family (numbers_of W q.at))) Undefined ∷ r) (values_there s ps parts.1)

-- a list by its places
numbers_up : (a n : ℕ) → nodes_from (suc a) n ≡ map suc (nodes_from a n)
numbers_up a zero = refl
numbers_up a (suc n) = ap (λ r. suc a ∷ r) (numbers_up (suc a) n)

list_back : (s : AbsCells) → map (λ k. unwrap_or (slice_get s k) Undefined) (nodes_from 0 (length s)) ≡ s
list_back [] = refl
list_back (x ∷ s) = ap (λ r. x ∷ r) (ap (map (λ k. unwrap_or (slice_get (x ∷ s) k) Undefined)) (numbers_up 0 (length s)) ∙ map_map (λ k. unwrap_or (slice_get (x ∷ s) k) Undefined) suc (nodes_from 0 (length s)) ∙ list_back s)

-- a state is the list of its values at the cells
pub state_at_places : (W : Window) (s : AbsCells) → length s ≡ length (places W) → map (λ (place : Place). value_at W s place.family place.at) (places W) ≡ s
state_at_places W s count =
    values_there W s (places W) (families_are_cells W [] W.families 0 refl)
    ∙ ap (map (λ k. unwrap_or (slice_get s k) Undefined)) (places_in_order W ∙ ap (nodes_from 0) (sym count))
    ∙ list_back s

-- comparing goes both ways
equal_sym : (a b : ℕ) → nat_eq a b ≡ nat_eq b a
equal_sym a b = grind (arith, nat_tests)

truth_sym : (a b : Bool) → same_truth a b ≡ same_truth b a
truth_sym true true = refl
truth_sym true false = refl
truth_sym false true = refl
truth_sym false false = refl

number_sym : (a b : ℤ) → same_number a b ≡ same_number b a
number_sym (pos a) (pos b) = equal_sym a b
number_sym (pos a) (negsuc b) = refl
number_sym (negsuc a) (pos b) = refl
number_sym (negsuc a) (negsuc b) = equal_sym a b

node_sym : (a b : AbsNode) → same_node a b ≡ same_node b a
node_sym (Kept a) (Kept b) = equal_sym a b
node_sym (Kept a) (Fired b) = refl
node_sym (Kept a) Other = refl
node_sym (Fired a) (Kept b) = refl
node_sym (Fired a) (Fired b) = equal_sym a b
node_sym (Fired a) Other = refl
node_sym Other (Kept b) = refl
node_sym Other (Fired b) = refl
node_sym Other Other = refl

same_sym : (a b : AbsValue) → same_value a b ≡ same_value b a
same_sym Undefined Undefined = refl
same_sym Undefined (Truth b) = refl
same_sym Undefined (Number b) = refl
same_sym Undefined (Member k i) = refl
same_sym Undefined (Node b) = refl
same_sym (Truth a) Undefined = refl
same_sym (Truth a) (Truth b) = truth_sym a b
same_sym (Truth a) (Number b) = refl
same_sym (Truth a) (Member k i) = refl
same_sym (Truth a) (Node b) = refl
same_sym (Number a) Undefined = refl
same_sym (Number a) (Truth b) = refl
same_sym (Number a) (Number b) = number_sym a b
same_sym (Number a) (Member k i) = refl
same_sym (Number a) (Node b) = refl
same_sym (Member k i) Undefined = refl
same_sym (Member k i) (Truth b) = refl
same_sym (Member k i) (Number b) = refl
same_sym (Member k i) (Member l j) = ap (λ b. b && nat_eq i j) (equal_sym k l) ∙ ap (λ b. nat_eq l k && b) (equal_sym i j)
same_sym (Member k i) (Node b) = refl
same_sym (Node a) Undefined = refl
same_sym (Node a) (Truth b) = refl
same_sym (Node a) (Number b) = refl
same_sym (Node a) (Member k i) = refl
same_sym (Node a) (Node b) = node_sym a b

values_same : {X : Type 0} (g h : X → AbsValue) (xs : List X) → list_all (λ x. same_value (g x) (h x)) xs ≡ same_values (map h xs) (map g xs)
values_same g h [] = refl
values_same g h (x ∷ xs) = ap (λ b. b && list_all (λ x. same_value (g x) (h x)) xs) (same_sym (g x) (h x)) ∙ ap (λ b. same_value (h x) (g x) && b) (values_same g h xs)

pub firing_steps : (M : AbstractMachine) (r : TermRule) (p : List AbsNode) (s w t : AbsCells) → length s ≡ length (places (window M 0))
    → fires (window M (fired_of p)) (window M 0) (window M 0) M.formulas r p (places (window M 0)) w s t ≡ is_step M s r p w t
firing_steps M r p s w t count =
    let K = window M 0 in
    let W = window M (fired_of p) in
    ap (λ b. b && (all_may_hold W w M.formulas && (may W w p r.guard (passes true) && list_all (becomes K W w t r.updates p) (places K))))
    (values_same (kept_value W w) (λ (place : Place). value_at K s place.family place.at) (places K) ∙ ap (λ z. same_values z (map (kept_value W w) (places K))) (state_at_places K s count))

-- coded states have a value for each cell
pub coded_length : (x : ℕ → Bool) (first : ℕ) (ls : List (List AbsValue)) → length (coded_state x first ls) ≡ length ls
coded_length x first [] = refl
coded_length x first (l ∷ ls) = ap suc (coded_length x (first + width (length l)) ls)

lists_count : (W : Window) → length (cell_lists W) ≡ length (places W)
lists_count W =
    sym (ap length (lists_by_place W (map (cell_values W) W.families) (places W) refl refl))
    ∙ length_map (λ (place : Place). get_or (map (cell_values W) W.families) place.family []) (places W)

pub coded_firing : (M : AbstractMachine) (r : TermRule) (p : List AbsNode) (c : Network) (x : ℕ → Bool) (val : Edge → Bool) (a b d : ℕ) (wide before after : List (List Possible)) (e : Edge) → Agrees c x val
    → AreCoded val x a (cell_lists (window M (fired_of p))) wide → is_legal x a (cell_lists (window M (fired_of p))) ≡ true
    → AreCoded val x b (cell_lists (window M 0)) before → is_legal x b (cell_lists (window M 0)) ≡ true
    → AreCoded val x d (cell_lists (window M 0)) after → is_legal x d (cell_lists (window M 0)) ≡ true
    → TellsSides c wide before after e (fires (window M (fired_of p)) (window M 0) (window M 0) M.formulas r p (places (window M 0)))
    → val e ≡ is_step M (coded_state x b (cell_lists (window M 0))) r p (coded_state x a (cell_lists (window M (fired_of p)))) (coded_state x d (cell_lists (window M 0)))
unfolding TellsSides
coded_firing M r p c x val a b d wide before after e agrees ca la cb lb cd ld tells =
    tells x val agrees (coded_state x a (cell_lists (window M (fired_of p)))) (coded_state x b (cell_lists (window M 0))) (coded_state x d (cell_lists (window M 0)))
    (code_shows val x a (cell_lists (window M (fired_of p))) wide ca la) (code_shows val x b (cell_lists (window M 0)) before cb lb) (code_shows val x d (cell_lists (window M 0)) after cd ld)
    ∙ firing_steps M r p (coded_state x b (cell_lists (window M 0))) (coded_state x a (cell_lists (window M (fired_of p)))) (coded_state x d (cell_lists (window M 0)))
    (coded_length x b (cell_lists (window M 0)) ∙ lists_count (window M 0))
