-- What is decided agrees with the definitions.
use Rattle.std.proofs.Common.{◌≡◌, ◌↔◌, ℕ, zero, suc, ◌+◌, ◌-◌, ◌<◌, ◌≤◌, Bool, true, false, ◌&&◌, cond, List, [], ◌∷◌, ◌++◌, map, length, get_or, Option, Some, None, refl, sym, ap, ◌∙◌, subst, append-nil, arith}
use Rattle.std.specs.Prelude.{slice_get, nat_lt}
use Rattle.std.specs.List.{list_all, list_any, flat_map, Contains}
use Rattle.std.proofs.lemmas.Bool.{and_parts}
use Rattle.std.proofs.lemmas.Option.{slice_get-get_or}
use Rattle.term_core.specs.declared.term.Term.{Term}
use Rattle.term_core.specs.declared.machine.CellFamily.{CellFamily}
use Rattle.term_core.specs.declared.machine.TermRule.{TermRule}
use Rattle.term_core.specs.Nodes.{nodes, nodes_from, choices}
use Rattle.term_core.specs.Cells.{Cell, cells, cells_from, is_cell, place_of, table_value}
use Rattle.term_core.specs.Firing.{update_for}
use Rattle.term_core.specs.Laws.{PlacesHaveCells}
use Rattle.lemma_strengthen.specs.declared.formula.Formula.{Formula}
use Rattle.other_abstract.specs.declared.node.AbsNode.{AbsNode}
use Rattle.other_abstract.specs.declared.node.AbsNode.TheVariants.{Kept, Fired}
use Rattle.other_abstract.specs.declared.value.AbsValue.{AbsValue}
use Rattle.other_abstract.specs.declared.value.AbsValue.TheVariants.{Undefined}
use Rattle.other_abstract.specs.declared.place.Place.{Place}
use Rattle.other_abstract.specs.declared.machine.AbstractMachine.{AbstractMachine}
use Rattle.other_abstract.specs.Windows.{Window, size, numbered_node, node_number, same_value}
use Rattle.other_abstract.specs.May.{AbsCells, May, value_at}
use Rattle.other_abstract.specs.Tests.{window_nodes, lists_of, passes, may, may_hold, may_fail}
use Rattle.other_abstract.specs.Lists.{AreValues}
use Rattle.other_abstract.specs.Machines.{window, fired_of, read_kept, kept_part, blank, blank_of, settled, IsPattern, FitsWindow, MayBecome, MayStart, IsAbsStep, IsAbsStart, MayFault, Violates, AbsFires, AbsStarts}
use Rattle.other_abstract.specs.Places.{places_in, places}
use Rattle.other_abstract.specs.Stepping.{same_values, kept_value, may_become, becomes, may_begin, begins, all_may_hold, is_step, is_start, piece_may_fail, may_fault}
use Rattle.other_abstract.proofs.TestLemmas.{and_both, maybe, may_in, may_has, is_passes}
use Rattle.other_abstract.proofs.SetLemmas.{same_is, same_self}
use Rattle.other_abstract.proofs.ViolationLemmas.{list_in, list_has, holds_in, holds_has, violates_in, violates_has}
use Rattle.other_abstract.proofs.PatternLemmas.{any_stands, stands_any, map_get, get_contains, contains_get}
use Rattle.other_abstract.proofs.ListLemmas.{map_over}

-- Lists

map_map : {X Y Z : Type 0} (g : Y → Z) (f : X → Y) (xs : List X) → map g (map f xs) ≡ map (λ x. g (f x)) xs
map_map g f [] = refl
map_map g f (x ∷ xs) = ap (λ ys. g (f x) ∷ ys) (map_map g f xs)

get_map : {X Y : Type 0} (f : X → Y) (xs : List X) (k : ℕ) (x : X) → slice_get xs k ≡ Some x → slice_get (map f xs) k ≡ Some (f x)
get_map f [] k x e = cc
get_map f (y ∷ ys) zero x e = let s : y ≡ x = cc in ap (λ z. Some (f z)) s
get_map f (y ∷ ys) (suc k) x e = get_map f ys k x e

all_true : {X : Type 0} (q : X → Bool) (xs : List X) (k : ℕ) (x : X) → list_all q xs ≡ true → slice_get xs k ≡ Some x → q x ≡ true
all_true q [] k x all e = cc
all_true q (y ∷ ys) zero x all e = let s : y ≡ x = cc in ap q (sym s) ∙ (and_parts (q y) (list_all q ys) all).0
all_true q (y ∷ ys) (suc k) x all e = all_true q ys k x (and_parts (q y) (list_all q ys) all).1 e

each_true : {X : Type 0} (q : X → Bool) (xs : List X) → ((k : ℕ) (x : X) → slice_get xs k ≡ Some x → q x ≡ true) → list_all q xs ≡ true
each_true q [] each = refl
each_true q (y ∷ ys) each = and_both (q y) (list_all q ys) (each 0 y refl) (each_true q ys (λ k x e. each (suc k) x e))

same_values_is : (xs ys : List AbsValue) → same_values xs ys ≡ true → xs ≡ ys
same_values_is [] [] h = refl
same_values_is [] (y ∷ ys) h = cc
same_values_is (x ∷ xs) [] h = cc
same_values_is (x ∷ xs) (y ∷ ys) h =
    let p = and_parts (same_value x y) (same_values xs ys) h in
    ap (λ z. z ∷ xs) (same_is x y p.0) ∙ ap (λ zs. y ∷ zs) (same_values_is xs ys p.1)

same_values_self : (xs : List AbsValue) → same_values xs xs ≡ true
same_values_self [] = refl
same_values_self (x ∷ xs) = and_both (same_value x x) (same_values xs xs) (same_self x) (same_values_self xs)

-- Cells of windows

heads : (g : ℕ → AbsNode) (k : ℕ) (cs : List (List ℕ)) → map (λ rest. g k ∷ rest) (map (map g) cs) ≡ map (map g) (map (λ ns. k ∷ ns) cs)
heads g k [] = refl
heads g k (c ∷ cs) = ap (λ xs. (g k ∷ map g c) ∷ xs) (heads g k cs)

headed : (g : ℕ → AbsNode) (rests : List (List AbsNode)) (cs : List (List ℕ)) (ks : List ℕ) → rests ≡ map (map g) cs → flat_map (λ n. map (λ rest. n ∷ rest) rests) (map g ks) ≡ map (map g) (flat_map (λ k. map (λ ns. k ∷ ns) cs) ks)
headed g rests cs [] e = refl
headed g rests cs (k ∷ ks) e =
    ap (λ xs. xs ++ flat_map (λ n. map (λ rest. n ∷ rest) rests) (map g ks)) (ap (map (λ rest. g k ∷ rest)) e ∙ heads g k cs)
    ∙ ap (λ ys. map (map g) (map (λ ns. k ∷ ns) cs) ++ ys) (headed g rests cs ks e)
    ∙ sym (map_over (map g) (map (λ ns. k ∷ ns) cs) (flat_map (λ k. map (λ ns. k ∷ ns) cs) ks))

lists_named : (g : ℕ → AbsNode) (N count : ℕ) → lists_of (map g (nodes N)) count ≡ map (map g) (choices N count)
lists_named g N zero = refl
lists_named g N (suc count) = headed g (lists_of (map g (nodes N)) count) (choices N count) (nodes N) (lists_named g N count)

abbrev pub named_place : (ℕ → AbsNode) → Cell → Place
named_place g c = record { family = c.family; at = map g c.at }

named_here : (g : ℕ → AbsNode) (first : ℕ) (cs : List (List ℕ)) → map (λ (at : List AbsNode). record { family = first; at = at }) (map (map g) cs) ≡ map (named_place g) (map (λ (at : List ℕ). record { family = first; at = at }) cs)
named_here g first [] = refl
named_here g first (c ∷ cs) = ap (λ (ps : List Place). record { family = first; at = map g c } ∷ ps) (named_here g first cs)

places_named : (g : ℕ → AbsNode) (N first : ℕ) (fs : List CellFamily) → places_in (map g (nodes N)) first fs ≡ map (named_place g) (cells_from N first fs)
places_named g N first [] = refl
places_named g N first (f ∷ fs) =
    ap (λ (xs : List Place). xs ++ places_in (map g (nodes N)) (suc first) fs) (ap (map (λ (at : List AbsNode). record { family = first; at = at })) (lists_named g N f.axes) ∙ named_here g first (choices N f.axes))
    ∙ ap (λ (ys : List Place). map (named_place g) (map (λ (at : List ℕ). record { family = first; at = at }) (choices N f.axes)) ++ ys) (places_named g N (suc first) fs)
    ∙ sym (map_over (named_place g) (map (λ (at : List ℕ). record { family = first; at = at }) (choices N f.axes)) (cells_from N (suc first) fs))

-- the kept nodes' cells
pub kept_places : (M : AbstractMachine) → places (window M 0) ≡ map (named_place Kept) (cells M.kept M.machine.families)
kept_places M = ap (λ ns. places_in ns 0 M.machine.families) (append-nil (map Kept (nodes M.kept))) ∙ places_named Kept M.kept 0 M.machine.families

-- a window's nodes by their numbers
kept_named : (m first count : ℕ) → first + count ≤ m → map (numbered_node m) (nodes_from (suc first) count) ≡ map Kept (nodes_from (suc first) count)
kept_named m first zero h = refl
kept_named m first (suc count) h =
    let l : first < m = omega (arith, h) in
    let q : nat_lt first m ≡ true = grind (arith, l) in
    ap (λ n. n ∷ map (numbered_node m) (nodes_from (suc (suc first)) count)) (ap (λ b. cond b (Kept (suc first)) (Fired (suc first - m))) q)
    ∙ ap (λ ns. Kept (suc first) ∷ ns) (kept_named m (suc first) count (omega (arith, h)))

fired_named : (m j count : ℕ) → map (numbered_node m) (nodes_from (suc (m + j)) count) ≡ map Fired (nodes_from (suc j) count)
fired_named m j zero = refl
fired_named m j (suc count) =
    let l : m ≤ m + j = omega arith in
    let q : nat_lt (m + j) m ≡ false = grind (arith, l) in
    let d : suc (m + j) - m ≡ suc j = omega arith in
    let n : suc (suc (m + j)) ≡ suc (m + suc j) = omega arith in
    ap (λ x. x ∷ map (numbered_node m) (nodes_from (suc (suc (m + j))) count)) (ap (λ b. cond b (Kept (suc (m + j))) (Fired (suc (m + j) - m))) q ∙ ap Fired d)
    ∙ ap (λ k. Fired (suc j) ∷ map (numbered_node m) (nodes_from k count)) n
    ∙ ap (λ ns. Fired (suc j) ∷ ns) (fired_named m (suc j) count)

nodes_split : (first a b : ℕ) → nodes_from first (a + b) ≡ nodes_from first a ++ nodes_from (first + a) b
nodes_split first zero b =
    let e : zero + b ≡ b = omega arith in
    let f : first ≡ first + zero = omega arith in
    ap (nodes_from first) e ∙ ap (λ k. nodes_from k b) f
nodes_split first (suc a) b =
    let e : suc a + b ≡ suc (a + b) = omega arith in
    let f : suc first + a ≡ first + suc a = omega arith in
    ap (nodes_from first) e ∙ ap (λ ns. first ∷ ns) (nodes_split (suc first) a b) ∙ ap (λ k. first ∷ (nodes_from (suc first) a ++ nodes_from k b)) f

pub window_named : (W : Window) → window_nodes W ≡ map (numbered_node W.kept) (nodes (size W))
window_named W =
    let e : 1 + W.kept ≡ suc (W.kept + 0) = omega arith in
    let l : 0 + W.kept ≤ W.kept = omega arith in
    sym (
    ap (map (numbered_node W.kept)) (nodes_split 1 W.kept W.fired)
    ∙ map_over (numbered_node W.kept) (nodes_from 1 W.kept) (nodes_from (1 + W.kept) W.fired)
    ∙ ap (λ ns. ns ++ map (numbered_node W.kept) (nodes_from (1 + W.kept) W.fired)) (kept_named W.kept 0 W.kept l)
    ∙ ap (λ k. map Kept (nodes W.kept) ++ map (numbered_node W.kept) (nodes_from k W.fired)) e
    ∙ ap (λ ns. map Kept (nodes W.kept) ++ ns) (fired_named W.kept 0 W.fired)
    )

-- the state before anything is written, cell by cell
pub blank_places : (W : Window) → map (λ (place : Place). blank_of W.families place.family) (places_in (window_nodes W) 0 W.families) ≡ blank W
blank_places W =
    ap (λ ns. map (λ (place : Place). blank_of W.families place.family) (places_in ns 0 W.families)) (window_named W)
    ∙ ap (map (λ (place : Place). blank_of W.families place.family)) (places_named (numbered_node W.kept) (size W) 0 W.families)
    ∙ map_map (λ (place : Place). blank_of W.families place.family) (named_place (numbered_node W.kept)) (cells (size W) W.families)

pub blank_made : (M : AbstractMachine) (fired : ℕ) (ns : List AbsNode) (fs : List CellFamily) (out : AbsCells) → ns ≡ window_nodes (window M fired) → fs ≡ M.machine.families
    → out ≡ map (λ (place : Place). blank_of fs place.family) (places_in ns 0 fs) → out ≡ blank (window M fired)
blank_made M fired ns fs out e f is =
    is
    ∙ ap (λ gs. map (λ (place : Place). blank_of gs place.family) (places_in ns 0 gs)) f
    ∙ ap (λ ms. map (λ (place : Place). blank_of M.machine.families place.family) (places_in ms 0 M.machine.families)) e
    ∙ blank_places (window M fired)

-- the kept part, cell by cell
pub kept_part_places : (M : AbstractMachine) (fired : ℕ) (w : AbsCells) → map (kept_value (window M fired) w) (places (window M 0)) ≡ kept_part (window M fired) w
kept_part_places M fired w =
    ap (map (kept_value (window M fired) w)) (kept_places M)
    ∙ map_map (kept_value (window M fired) w) (named_place Kept) (cells M.kept M.machine.families)

-- the value of a kept cell
numbers_kept : (m : ℕ) (at : List ℕ) → map (node_number m) (map Kept at) ≡ at
numbers_kept m [] = refl
numbers_kept m (k ∷ ks) = ap (λ ns. k ∷ ns) (numbers_kept m ks)

pub kept_cell : (M : AbstractMachine) (t : AbsCells) (f : ℕ) (at : List ℕ) → value_at (window M 0) t f (map Kept at) ≡ table_value M.kept M.machine.families Undefined t f at
kept_cell M t f at =
    let e : M.kept + 0 ≡ M.kept = omega arith in
    ap (λ n. table_value n M.machine.families Undefined t f (map (node_number M.kept) (map Kept at))) e
    ∙ ap (table_value M.kept M.machine.families Undefined t f) (numbers_kept M.kept at)

-- Steps

module _ (places_there : (N : ℕ) (families : List CellFamily) (f : ℕ) (at : List ℕ) → is_cell N families f at ≡ true → slice_get (cells N families) (place_of N families f at) ≡ Some (record { family = f; at = at })) (cells_there : PlacesHaveCells) where
  -- a test at all kept cells is one at each
  at_cell : (M : AbstractMachine) (q : Place → Bool) (f : ℕ) (at : List ℕ) → list_all q (places (window M 0)) ≡ true → is_cell M.kept M.machine.families f at ≡ true → q (record { family = f; at = map Kept at }) ≡ true
  at_cell M q f at all is =
      all_true q (map (named_place Kept) (cells M.kept M.machine.families)) (place_of M.kept M.machine.families f at) (record { family = f; at = map Kept at })
      (sym (ap (list_all q) (kept_places M)) ∙ all)
      (get_map (named_place Kept) (cells M.kept M.machine.families) (place_of M.kept M.machine.families f at) (record { family = f; at = at }) (places_there M.kept M.machine.families f at is))

  by_cells : (M : AbstractMachine) (q : Place → Bool) → ((f : ℕ) (at : List ℕ) → is_cell M.kept M.machine.families f at ≡ true → q (record { family = f; at = map Kept at }) ≡ true) → list_all q (places (window M 0)) ≡ true
  by_cells M q each =
      ap (list_all q) (kept_places M)
      ∙ each_true q (map (named_place Kept) (cells M.kept M.machine.families)) (λ k place e.
      let g = map_get (named_place Kept) (cells M.kept M.machine.families) k place e in
      let c : Cell = g.0 in
      ap q (sym g.2) ∙ each c.family c.at (cells_there M.kept M.machine.families k c g.1).0)

  -- what a cell may become
  become_in : (W : Window) (w : AbsCells) (p : List AbsNode) (o : Option Term) (f : ℕ) (at : List ℕ) (y : AbsValue) → may_become W w p o (record { family = f; at = map Kept at }) y ≡ true → MayBecome W w p o f at y
  become_in W w p (Some body) f at y h =
      let r = may_in W w (p ++ map Kept at) body (λ x. same_value (read_kept x) y) h in
      (r.value, r.may, sym (same_is (read_kept r.value) y r.passes))
  become_in W w p None f at y h = sym (same_is (read_kept (value_at W w f (map Kept at))) y h)

  become_has : (W : Window) (w : AbsCells) (p : List AbsNode) (o : Option Term) (f : ℕ) (at : List ℕ) (y : AbsValue) → MayBecome W w p o f at y → may_become W w p o (record { family = f; at = map Kept at }) y ≡ true
  become_has W w p (Some body) f at y (x, m, e) = may_has W w (p ++ map Kept at) body (λ x. same_value (read_kept x) y) x m (ap (same_value (read_kept x)) e ∙ same_self (read_kept x))
  become_has W w p None f at y e = ap (same_value (read_kept (value_at W w f (map Kept at)))) e ∙ same_self (read_kept (value_at W w f (map Kept at)))

  -- what a start may give it
  begin_in : (K W : Window) (p : List AbsNode) (o : Option Term) (f : ℕ) (at : List ℕ) (y : AbsValue) → may_begin K W p o (record { family = f; at = map Kept at }) y ≡ true → MayStart K W p o f at y
  begin_in K W p (Some body) f at y h =
      let r = may_in W (blank W) (p ++ map Kept at) body (λ x. same_value (settled K f (read_kept x)) y) h in
      (r.value, r.may, sym (same_is (settled K f (read_kept r.value)) y r.passes))
  begin_in K W p None f at y h = sym (same_is (blank_of W.families f) y h)

  begin_has : (K W : Window) (p : List AbsNode) (o : Option Term) (f : ℕ) (at : List ℕ) (y : AbsValue) → MayStart K W p o f at y → may_begin K W p o (record { family = f; at = map Kept at }) y ≡ true
  begin_has K W p (Some body) f at y (x, m, e) = may_has W (blank W) (p ++ map Kept at) body (λ x. same_value (settled K f (read_kept x)) y) x m (ap (same_value (settled K f (read_kept x))) e ∙ same_self (settled K f (read_kept x)))
  begin_has K W p None f at y e = ap (same_value (blank_of W.families f)) e ∙ same_self (blank_of W.families f)

  pub step_in : (M : AbstractMachine) (s : AbsCells) (r : TermRule) (p : List AbsNode) (w t : AbsCells) → IsPattern M.kept r p → FitsWindow (window M (fired_of p)) w → FitsWindow (window M 0) t
      → is_step M s r p w t ≡ true → IsAbsStep M s r p w t
  step_in M s r p w t pattern wide next h =
      let W = window M (fired_of p) in
      let K = window M 0 in
      let a = and_parts (same_values s (map (kept_value W w) (places K))) (all_may_hold W w M.formulas && (may W w p r.guard (passes true) && list_all (becomes K W w t r.updates p) (places K))) h in
      let b = and_parts (all_may_hold W w M.formulas) (may W w p r.guard (passes true) && list_all (becomes K W w t r.updates p) (places K)) a.1 in
      let d = and_parts (may W w p r.guard (passes true)) (list_all (becomes K W w t r.updates p) (places K)) b.1 in
      record {
        pattern = pattern;
        wide = wide;
        next = next;
        before = same_values_is s (map (kept_value W w) (places K)) a.0 ∙ kept_part_places M (fired_of p) w;
        assumed = λ k f e. holds_in W w f (all_true (λ (f : Formula). may_hold W w f.prefix f.body) M.formulas k f b.0 e);
        guard = maybe W w true (May W w p r.guard) (may_in W w p r.guard (passes true) d.0);
        becomes = λ f at is. subst (MayBecome W w p (update_for r.updates f) f at) (kept_cell M t f at)
            (become_in W w p (update_for r.updates f) f at (value_at K t f (map Kept at)) (at_cell M (becomes K W w t r.updates p) f at d.1 is));
      }

  pub step_has : (M : AbstractMachine) (s : AbsCells) (r : TermRule) (p : List AbsNode) (w t : AbsCells) → IsAbsStep M s r p w t → is_step M s r p w t ≡ true
  step_has M s r p w t step =
      let W = window M (fired_of p) in
      let K = window M 0 in
      let g = step.guard in
      and_both (same_values s (map (kept_value W w) (places K))) (all_may_hold W w M.formulas && (may W w p r.guard (passes true) && list_all (becomes K W w t r.updates p) (places K)))
      (ap (same_values s) (kept_part_places M (fired_of p) w ∙ sym step.before) ∙ same_values_self s)
      (and_both (all_may_hold W w M.formulas) (may W w p r.guard (passes true) && list_all (becomes K W w t r.updates p) (places K))
      (each_true (λ (f : Formula). may_hold W w f.prefix f.body) M.formulas (λ k f e. holds_has W w f (step.assumed k f e)))
      (and_both (may W w p r.guard (passes true)) (list_all (becomes K W w t r.updates p) (places K))
      (may_has W w p r.guard (passes true) g.0 g.1 (is_passes true g.0 g.2))
      (by_cells M (becomes K W w t r.updates p) (λ f at is. become_has W w p (update_for r.updates f) f at (value_at K t f (map Kept at))
      (subst (MayBecome W w p (update_for r.updates f) f at) (sym (kept_cell M t f at)) (step.becomes f at is))))))

  pub start_in : (M : AbstractMachine) (r : TermRule) (p : List AbsNode) (t : AbsCells) → IsPattern M.kept r p → FitsWindow (window M 0) t → is_start M r p t ≡ true → IsAbsStart M r p t
  start_in M r p t pattern next h =
      let W = window M (fired_of p) in
      let K = window M 0 in
      record {
        pattern = pattern;
        next = next;
        becomes = λ f at is. subst (MayStart K W p (update_for r.updates f) f at) (kept_cell M t f at)
            (begin_in K W p (update_for r.updates f) f at (value_at K t f (map Kept at)) (at_cell M (begins K W t r.updates p) f at h is));
      }

  pub start_has : (M : AbstractMachine) (r : TermRule) (p : List AbsNode) (t : AbsCells) → IsAbsStart M r p t → is_start M r p t ≡ true
  start_has M r p t start =
      let W = window M (fired_of p) in
      let K = window M 0 in
      by_cells M (begins K W t r.updates p) (λ f at is. begin_has K W p (update_for r.updates f) f at (value_at K t f (map Kept at))
      (subst (MayStart K W p (update_for r.updates f) f at) (sym (kept_cell M t f at)) (start.becomes f at is)))

  some_same : {X : Type 0} {a b : X} → Some a ≡ Some b → a ≡ b
  some_same e = cc

  -- the rule or start of a number
  pub fires_decided : (M : AbstractMachine) (s : AbsCells) (k : ℕ) (r : TermRule) (p : List AbsNode) (w t : AbsCells) (b : Bool) → slice_get M.machine.rules k ≡ Some r → IsPattern M.kept r p → FitsWindow (window M (fired_of p)) w → FitsWindow (window M 0) t
      → b ≡ is_step M s r p w t → (b ≡ true) ↔ AbsFires M s k p w t
  fires_decided M s k r p w t b there pattern wide next is = (
    λ h. (r, there, step_in M s r p w t pattern wide next (sym is ∙ h)),
    λ fires. is ∙ ap (λ q. is_step M s q p w t) (some_same (sym there ∙ fires.1)) ∙ step_has M s fires.0 p w t fires.2,
  )

  pub starts_decided : (M : AbstractMachine) (k : ℕ) (r : TermRule) (p : List AbsNode) (t : AbsCells) (b : Bool) → slice_get M.machine.starts k ≡ Some r → IsPattern M.kept r p → FitsWindow (window M 0) t
      → b ≡ is_start M r p t → (b ≡ true) ↔ AbsStarts M k p t
  starts_decided M k r p t b there pattern next is = (
    λ h. (r, there, start_in M r p t pattern next (sym is ∙ h)),
    λ starts. is ∙ ap (λ q. is_start M q p t) (some_same (sym there ∙ starts.1)) ∙ start_has M starts.0 p t starts.2,
  )

-- Faults of starts

pub fault_in : (M : AbstractMachine) (r : TermRule) (p : List AbsNode) → may_fault M r p ≡ true → MayFault M r p
fault_in M r p h =
    let W = window M (fired_of p) in
    let K = window M 0 in
    let s = any_stands (piece_may_fail K W p) r.ok h in
    let n = list_in K s.value.binders (λ ns. may W (blank W) (p ++ ns) s.value.body (passes false)) s.passes in
    record {
      index = s.place;
      piece = s.value;
      there = s.there;
      nodes = n.value;
      count = n.may.0;
      are = n.may.1;
      false_there = maybe W (blank W) false (May W (blank W) (p ++ n.value) s.value.body) (may_in W (blank W) (p ++ n.value) s.value.body (passes false) n.passes);
    }

pub fault_has : (M : AbstractMachine) (r : TermRule) (p : List AbsNode) → MayFault M r p → may_fault M r p ≡ true
fault_has M r p v =
    let W = window M (fired_of p) in
    let K = window M 0 in
    let f = v.false_there in
    stands_any (piece_may_fail K W p) r.ok v.index v.piece v.there
    (list_has K v.piece.binders (λ ns. may W (blank W) (p ++ ns) v.piece.body (passes false)) v.nodes (v.count, v.are)
    (may_has W (blank W) (p ++ v.nodes) v.piece.body (passes false) f.0 f.1 (is_passes false f.0 f.2)))

-- With arguments that are equal

pub step_moved : (M : AbstractMachine) (s s' : AbsCells) (r : TermRule) (p p' : List AbsNode) (w w' t t' : AbsCells) (b : Bool) → s' ≡ s → p' ≡ p → w' ≡ w → t' ≡ t → b ≡ is_step M s' r p' w' t' → b ≡ is_step M s r p w t
step_moved M s s' r p p' w w' t t' b a d e f is =
    is
    ∙ ap (λ x. is_step M x r p' w' t') a
    ∙ ap (λ x. is_step M s r x w' t') d
    ∙ ap (λ x. is_step M s r p x t') e
    ∙ ap (λ x. is_step M s r p w x) f

pub start_moved : (M : AbstractMachine) (r : TermRule) (p p' : List AbsNode) (t t' : AbsCells) (b : Bool) → p' ≡ p → t' ≡ t → b ≡ is_start M r p' t' → b ≡ is_start M r p t
start_moved M r p p' t t' b d f is = is ∙ ap (λ x. is_start M r x t') d ∙ ap (λ x. is_start M r p x) f

-- an element of a list that a slice shows
pub shown : {X : Type 0} (xs ys : List X) (k : ℕ) (x : X) → ys ≡ xs → k < length xs → x ≡ get_or ys k x → slice_get xs k ≡ Some x
shown xs ys k x e below is =
    let h : k < length ys = subst (λ zs. k < length zs) (sym e) below in
    ap (λ zs. slice_get zs k) (sym e) ∙ slice_get-get_or ys k x h ∙ ap Some (sym is)

same_some : {X : Type 0} {a b : X} → Some a ≡ Some b → a ≡ b
same_some e = cc

pub violates_decided : (M : AbstractMachine) (s s' : AbsCells) (k : ℕ) (g f : Formula) (b : Bool) → slice_get M.formulas k ≡ Some g → s' ≡ s → b ≡ may_fail (window M 0) s' g.prefix g.body → slice_get M.formulas k ≡ Some f → (b ≡ true) ↔ Violates M s f
violates_decided M s s' k g f b there e is at =
    let same : g ≡ f = same_some (sym there ∙ at) in
    let now : b ≡ may_fail (window M 0) s f.prefix f.body = is ∙ ap (λ x. may_fail (window M 0) x g.prefix g.body) e ∙ ap (λ (h : Formula). may_fail (window M 0) s h.prefix h.body) same in (
      λ h. violates_in M s f (sym now ∙ h),
      λ v. now ∙ violates_has M s f v,
    )

pub faults_decided : (M : AbstractMachine) (k : ℕ) (g r : TermRule) (p p' : List AbsNode) (b : Bool) → slice_get M.machine.starts k ≡ Some g → p' ≡ p → b ≡ may_fault M g p' → slice_get M.machine.starts k ≡ Some r → (b ≡ true) ↔ MayFault M r p
faults_decided M k g r p p' b there e is at =
    let same : g ≡ r = same_some (sym there ∙ at) in
    let now : b ≡ may_fault M r p = is ∙ ap (may_fault M g) e ∙ ap (λ h. may_fault M h p) same in (
      λ h. fault_in M r p (sym now ∙ h),
      λ v. now ∙ fault_has M r p v,
    )

-- Values

pub values_are : (W : Window) (w : AbsCells) (env : List AbsNode) (x : Term) (vs : List AbsValue) → AreValues W w env x vs → (v : AbsValue) → Contains vs v ↔ May W w env x v
unfolding AreValues
values_are W w env x vs are v = (
  λ held.
      let g = contains_get vs v held in
      let r = may_in W w env x (same_value v) (sym (are (same_value v)) ∙ stands_any (same_value v) vs g.0 v g.1 (same_self v)) in
      subst (May W w env x) (sym (same_is v r.value r.passes)) r.may,
  λ m.
      let s = any_stands (same_value v) vs (are (same_value v) ∙ may_has W w env x (same_value v) v m (same_self v)) in
      get_contains vs s.place v (s.there ∙ ap Some (sym (same_is v s.value s.passes))),
)

pub tests_are : (W : Window) (w : AbsCells) (env : List AbsNode) (x : Term) (vs : List AbsValue) → AreValues W w env x vs → (p : AbsValue → Bool) → list_any p vs ≡ may W w env x p
unfolding AreValues
tests_are W w env x vs are p = are p

pub ruleset deciding = (blank_places, kept_part_places, values_are, tests_are)
