-- The state of a window before anything is written, by its places and by its cells.
use Rattle.std.proofs.Common.{◌≡◌, ℕ, zero, suc, ◌+◌, ◌*◌, List, [], ◌∷◌, ◌++◌, length, map, replicate, refl, sym, ◌∙◌, ap, arith}
use Rattle.std.specs.List.{flat_map}
use Rattle.term_core.specs.declared.machine.CellFamily.{CellFamily}
use Rattle.term_core.specs.Nodes.{nodes, nodes_from, choices}
use Rattle.term_core.specs.Cells.{Cell, cells_from}
use Rattle.other_abstract.specs.declared.node.AbsNode.{AbsNode}
use Rattle.other_abstract.specs.declared.node.AbsNode.TheVariants.{Kept, Fired}
use Rattle.other_abstract.specs.declared.value.AbsValue.{AbsValue}
use Rattle.other_abstract.specs.declared.place.Place.{Place}
use Rattle.other_abstract.specs.declared.machine.AbstractMachine.{AbstractMachine}
use Rattle.other_abstract.specs.Windows.{Window, size}
use Rattle.other_abstract.specs.May.{AbsCells}
use Rattle.other_abstract.specs.Tests.{window_nodes, lists_of}
use Rattle.other_abstract.specs.Places.{places_in}
use Rattle.other_abstract.specs.Machines.{window, blank, blank_of}

map_append : {X Y : Type 0} (f : X → Y) (xs ys : List X) → map f (xs ++ ys) ≡ map f xs ++ map f ys
map_append f [] ys = refl
map_append f (x ∷ xs) ys = ap (λ r. f x ∷ r) (map_append f xs ys)

map_map : {X Y Z : Type 0} (f : Y → Z) (g : X → Y) (xs : List X) → map f (map g xs) ≡ map (λ x. f (g x)) xs
map_map f g [] = refl
map_map f g (x ∷ xs) = ap (λ r. f (g x) ∷ r) (map_map f g xs)

map_same : {X Y : Type 0} (y : Y) (xs : List X) → map (λ x. y) xs ≡ replicate (length xs) y
map_same y [] = refl
map_same y (x ∷ xs) = ap (λ r. y ∷ r) (map_same y xs)

length_map : {X Y : Type 0} (f : X → Y) (xs : List X) → length (map f xs) ≡ length xs
length_map f [] = refl
length_map f (x ∷ xs) = ap suc (length_map f xs)

length_append : {X : Type 0} (xs ys : List X) → length (xs ++ ys) ≡ length xs + length ys
length_append [] ys = let e : length ys ≡ 0 + length ys = omega arith in e
length_append (x ∷ xs) ys = let e = length_append xs ys in omega (arith, e)

-- there are as many lists of nodes of one kind as of another
count_flat : {X : Type 0} (ns : List X) (ls : List (List X)) → length (flat_map (λ n. map (λ (rest : List X). n ∷ rest) ls) ns) ≡ length ns * length ls
count_flat [] ls = none (length ls)
  where
    none : (n : ℕ) → 0 ≡ 0 * n
    none n = grind arith
count_flat {X} (n ∷ ns) ls =
    length_append (map (λ (rest : List X). n ∷ rest) ls) (flat_map (λ n. map (λ (rest : List X). n ∷ rest) ls) ns)
    ∙ ap (λ k. k + length (flat_map (λ n. map (λ (rest : List X). n ∷ rest) ls) ns)) (length_map (λ (rest : List X). n ∷ rest) ls)
    ∙ ap (λ k. length ls + k) (count_flat ns ls)
    ∙ one (length ns) (length ls)
  where
    one : (a b : ℕ) → b + a * b ≡ suc a * b
    one a b = grind arith

same_count : (ns : List AbsNode) (N : ℕ) → length ns ≡ length (nodes N) → (count : ℕ) → length (lists_of ns count) ≡ length (choices N count)
same_count ns N e zero = refl
same_count ns N e (suc count) =
    count_flat ns (lists_of ns count) ∙ ap (λ k. k * length (lists_of ns count)) e ∙ ap (λ k. length (nodes N) * k) (same_count ns N e count)
    ∙ sym (count_flat (nodes N) (choices N count))

by_cells : (ns : List AbsNode) (N : ℕ) (v : ℕ → AbsValue) → length ns ≡ length (nodes N) → (first : ℕ) (fs : List CellFamily) → map (λ (place : Place). v place.family) (places_in ns first fs) ≡ map (λ (c : Cell). v c.family) (cells_from N first fs)
by_cells ns N v e first [] = refl
by_cells ns N v e first (f ∷ fs) =
    map_append (λ (place : Place). v place.family) (map (λ (at : List AbsNode). record { family = first; at = at }) (lists_of ns f.axes)) (places_in ns (suc first) fs)
    ∙ ap (λ r. r ++ map (λ (place : Place). v place.family) (places_in ns (suc first) fs))
    (map_map (λ (place : Place). v place.family) (λ (at : List AbsNode). record { family = first; at = at }) (lists_of ns f.axes) ∙ map_same (v first) (lists_of ns f.axes)
    ∙ ap (λ k. replicate k (v first)) (same_count ns N e f.axes)
    ∙ sym (map_map (λ (c : Cell). v c.family) (λ (at : List ℕ). record { family = first; at = at }) (choices N f.axes) ∙ map_same (v first) (choices N f.axes)))
    ∙ ap (λ r. map (λ (c : Cell). v c.family) (map (λ (at : List ℕ). record { family = first; at = at }) (choices N f.axes)) ++ r) (by_cells ns N v e (suc first) fs)
    ∙ sym (map_append (λ (c : Cell). v c.family) (map (λ (at : List ℕ). record { family = first; at = at }) (choices N f.axes)) (cells_from N (suc first) fs))

counted : (first n : ℕ) → length (nodes_from first n) ≡ n
counted first zero = refl
counted first (suc n) = ap suc (counted (suc first) n)

window_size : (W : Window) → length (window_nodes W) ≡ length (nodes (size W))
window_size W =
    length_append (map Kept (nodes W.kept)) (map Fired (nodes W.fired))
    ∙ ap (λ k. k + length (map Fired (nodes W.fired))) (length_map Kept (nodes W.kept) ∙ counted 1 W.kept)
    ∙ ap (λ k. W.kept + k) (length_map Fired (nodes W.fired) ∙ counted 1 W.fired)
    ∙ sym (counted 1 (size W))

pub blank_made : (M : AbstractMachine) (fired : ℕ) (ns : List AbsNode) (fs : List CellFamily) (ps : List Place) (out : AbsCells) → ns ≡ window_nodes (window M fired) → fs ≡ M.machine.families → ps ≡ places_in ns 0 fs
    → out ≡ map (λ (place : Place). blank_of fs place.family) ps → out ≡ blank (window M fired)
blank_made M fired ns fs ps out e f g is =
    is ∙ ap (map (λ (place : Place). blank_of fs place.family)) g
    ∙ ap (λ gs. map (λ (place : Place). blank_of gs place.family) (places_in ns 0 gs)) f
    ∙ ap (λ ms. map (λ (place : Place). blank_of M.machine.families place.family) (places_in ms 0 M.machine.families)) e
    ∙ by_cells (window_nodes (window M fired)) (size (window M fired)) (blank_of M.machine.families) (window_size (window M fired)) 0 M.machine.families

pub ruleset blanks = (blank_made)
