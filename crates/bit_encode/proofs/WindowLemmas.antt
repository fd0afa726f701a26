-- The cells of a window by their places, and by their families.
use Rattle.std.proofs.Common.{◌≡◌, ℕ, zero, suc, ◌+◌, ◌*◌, ◌^◌, ◌<◌, ◌≤◌, Bool, List, [], ◌∷◌, ◌++◌, length, map, get_or, take, replicate, refl, sym, ◌∙◌, ap, subst, arith}
use Rattle.std.specs.List.{flat_map}
use Rattle.std.proofs.lemmas.List.{take_more, take_all}
use Rattle.std.proofs.Math.Nat.{pow-zero, pow-suc}
use Rattle.term_core.specs.declared.machine.CellFamily.{CellFamily}
use Rattle.term_core.specs.Nodes.{nodes, nodes_from}
use Rattle.circuit_core.specs.declared.edge.Edge.{Edge}
use Rattle.circuit_core.specs.Network.{Network}
use Rattle.circuit_core.specs.Growth.{KeepsEdges}
use Rattle.other_abstract.specs.declared.node.AbsNode.{AbsNode}
use Rattle.other_abstract.specs.declared.node.AbsNode.TheVariants.{Kept, Fired}
use Rattle.other_abstract.specs.declared.value.AbsValue.{AbsValue}
use Rattle.other_abstract.specs.declared.place.Place.{Place}
use Rattle.other_abstract.specs.Windows.{Window, size}
use Rattle.other_abstract.specs.Tests.{window_nodes, lists_of}
use Rattle.other_abstract.specs.Places.{places, places_in}
use Rattle.bit_encode.specs.declared.set.Possible.{Possible}
use Rattle.bit_encode.specs.MaySets.{Agrees, HasEdges, held}
use Rattle.bit_encode.specs.Codes.{width, picked, coded_place, cell_values, cell_lists}
use Rattle.bit_encode.proofs.CellLemmas.{AreMade, made_none, made_more}

-- lists mapped
get_map : {X Y : Type 0} (f : X → Y) (xs : List X) (i : ℕ) (d : X) (e : Y) → i < length xs → get_or (map f xs) i e ≡ f (get_or xs i d)
get_map f [] i d e h = absurd (omega (arith, h))
get_map f (x ∷ xs) zero d e h = refl
get_map f (x ∷ xs) (suc i) d e h = get_map f xs i d e (omega (arith, h))

pub length_map : {X Y : Type 0} (f : X → Y) (xs : List X) → length (map f xs) ≡ length xs
length_map f [] = refl
length_map f (x ∷ xs) = ap suc (length_map f xs)

map_push : {X Y : Type 0} (f : X → Y) (xs : List X) (x : X) → map f (xs ++ x ∷ []) ≡ map f xs ++ f x ∷ []
map_push f [] x = refl
map_push f (y ∷ ys) x = ap (λ r. f y ∷ r) (map_push f ys x)

map_take : {X Y : Type 0} (f : X → Y) (xs : List X) (i : ℕ) → map f (take i xs) ≡ take i (map f xs)
map_take f [] zero = refl
map_take f [] (suc i) = refl
map_take f (x ∷ xs) zero = refl
map_take f (x ∷ xs) (suc i) = ap (λ r. f x ∷ r) (map_take f xs i)

pub map_append : {X Y : Type 0} (f : X → Y) (xs ys : List X) → map f (xs ++ ys) ≡ map f xs ++ map f ys
map_append f [] ys = refl
map_append f (x ∷ xs) ys = ap (λ r. f x ∷ r) (map_append f xs ys)

pub length_append : {X : Type 0} (xs ys : List X) → length (xs ++ ys) ≡ length xs + length ys
length_append [] ys = let e : length ys ≡ 0 + length ys = omega arith in e
length_append (x ∷ xs) ys = let e = length_append xs ys in omega (arith, e)

-- one family more
pub values_more : {X : Type 0} (f : CellFamily → X) (fs : List CellFamily) (i : ℕ) (d g : CellFamily) (out out' : List X) (v : X) → i < length fs → g ≡ get_or fs i d → v ≡ f g
    → out ≡ map f (take i fs) → out' ≡ out ++ v ∷ [] → out' ≡ map f (take (i + 1) fs)
values_more f fs i d g out out' v inside is value had pushed =
    pushed ∙ ap (λ o. o ++ v ∷ []) had ∙ ap (λ u. map f (take i fs) ++ u ∷ []) (value ∙ ap f is)
    ∙ sym (ap (map f) (take_more fs i d inside) ∙ map_push f (take i fs) (get_or fs i d))

pub values_all : {X : Type 0} (f : CellFamily → X) (fs : List CellFamily) (i : ℕ) (out : List X) → length fs ≤ i → out ≡ map f (take i fs) → out ≡ map f fs
values_all f fs i out past had = had ∙ ap (map f) (take_all i fs past)

-- one place more
pub placed_more : (old mid new : Network) (f : Place → List AbsValue) (ps : List Place) (i : ℕ) (d p : Place) (cells after : List (List Possible)) (s : List Possible)
    → i < length ps → p ≡ get_or ps i d → AreMade old mid (map f (take i ps)) cells → KeepsEdges mid new → HasEdges new s
    → ((x : ℕ → Bool) (val : Edge → Bool) (q : AbsValue → Bool) → Agrees new x val → held val q s ≡ picked q (f p) (coded_place x mid.inputs (f p)))
    → new.inputs ≡ mid.inputs + width (length (f p)) → after ≡ cells ++ s ∷ [] → AreMade old new (map f (take (i + 1) ps)) after
placed_more old mid new f ps i d p cells after s inside is had keeps edges value count pushed =
    let longer : i < length (map f ps) = subst (λ n. i < n) (sym (length_map f ps)) inside in
    subst (λ ls. AreMade old new ls after) (sym (map_take f ps (i + 1)))
    (made_more old mid new (map f ps) i (f d) cells after s (f p) longer (ap f is ∙ sym (get_map f ps i d (f d) inside))
    (subst (λ ls. AreMade old mid ls cells) (map_take f ps i) had) keeps edges value count pushed)

pub placed_all : (old new : Network) (f : Place → List AbsValue) (ps : List Place) (cells : List (List Possible)) (i : ℕ) → length ps ≤ i → AreMade old new (map f (take i ps)) cells → AreMade old new (map f ps) cells
placed_all old new f ps cells i past had = subst (λ qs. AreMade old new (map f qs) cells) (take_all i ps past) had

-- how many lists there are of so many nodes
lists_after : (n : AbsNode) (ls : List (List AbsNode)) → length (map (λ (rest : List AbsNode). n ∷ rest) ls) ≡ length ls
lists_after n ls = length_map (λ (rest : List AbsNode). n ∷ rest) ls

count_flat : (ns : List AbsNode) (ls : List (List AbsNode)) → length (flat_map (λ n. map (λ (rest : List AbsNode). n ∷ rest) ls) ns) ≡ length ns * length ls
count_flat [] ls = none (length ls)
  where
    none : (n : ℕ) → 0 ≡ 0 * n
    none n = grind arith
count_flat (n ∷ ns) ls =
    length_append (map (λ (rest : List AbsNode). n ∷ rest) ls) (flat_map (λ n. map (λ (rest : List AbsNode). n ∷ rest) ls) ns)
    ∙ ap (λ k. k + length (flat_map (λ n. map (λ (rest : List AbsNode). n ∷ rest) ls) ns)) (lists_after n ls)
    ∙ ap (λ k. length ls + k) (count_flat ns ls)
    ∙ one (length ns) (length ls)
  where
    one : (a b : ℕ) → b + a * b ≡ suc a * b
    one a b = grind arith

pub count_lists : (ns : List AbsNode) (count : ℕ) → length (lists_of ns count) ≡ length ns ^ count
count_lists ns zero = sym (pow-zero (length ns))
count_lists ns (suc count) =
    count_flat ns (lists_of ns count) ∙ ap (λ k. length ns * k) (count_lists ns count)
    ∙ swap (length ns) (length ns ^ count) ∙ sym (pow-suc (length ns) count)
  where
    swap : (a b : ℕ) → a * b ≡ b * a
    swap a b = grind arith

map_same : {X Y : Type 0} (y : Y) (xs : List X) → map (λ x. y) xs ≡ replicate (length xs) y
map_same y [] = refl
map_same y (x ∷ xs) = ap (λ r. y ∷ r) (map_same y xs)

pub map_map : {X Y Z : Type 0} (f : Y → Z) (g : X → Y) (xs : List X) → map f (map g xs) ≡ map (λ x. f (g x)) xs
map_map f g [] = refl
map_map f g (x ∷ xs) = ap (λ r. f (g x) ∷ r) (map_map f g xs)

count_numbers : (first n : ℕ) → length (nodes_from first n) ≡ n
count_numbers first zero = refl
count_numbers first (suc n) = ap suc (count_numbers (suc first) n)

pub window_size : (W : Window) → length (window_nodes W) ≡ size W
window_size W =
    length_append (map Kept (nodes W.kept)) (map Fired (nodes W.fired))
    ∙ ap (λ k. k + length (map Fired (nodes W.fired))) (length_map Kept (nodes W.kept) ∙ count_numbers 1 W.kept)
    ∙ ap (λ k. W.kept + k) (length_map Fired (nodes W.fired) ∙ count_numbers 1 W.fired)

-- the lists of values of cells, by place and by family; the families before these are given by their lists of values
by_place : (W : Window) (ns : List AbsNode) (before : List (List AbsValue)) (first : ℕ) (fs : List CellFamily) → first ≡ length before → length ns ≡ size W
    → map (λ (place : Place). get_or (before ++ map (cell_values W) fs) place.family []) (places_in ns first fs)
    ≡ flat_map (λ (family : CellFamily). replicate (size W ^ family.axes) (cell_values W family)) fs
by_place W ns before first [] e many = refl
by_place W ns before first (f ∷ fs) e many =
    let all : List (List AbsValue) = before ++ map (cell_values W) (f ∷ fs) in
    map_append (λ (place : Place). get_or all place.family []) (map (λ (at : List AbsNode). record { family = first; at = at }) (lists_of ns f.axes)) (places_in ns (suc first) fs)
    ∙ ap (λ r. r ++ map (λ (place : Place). get_or all place.family []) (places_in ns (suc first) fs))
    (map_map (λ (place : Place). get_or all place.family []) (λ (at : List AbsNode). record { family = first; at = at }) (lists_of ns f.axes)
    ∙ map_same (get_or all first []) (lists_of ns f.axes)
    ∙ ap (λ k. replicate k (get_or all first [])) (count_lists ns f.axes ∙ ap (λ k. k ^ f.axes) many)
    ∙ ap (replicate (size W ^ f.axes)) (here before (cell_values W f) (map (cell_values W) fs) first e))
    ∙ ap (λ r. replicate (size W ^ f.axes) (cell_values W f) ++ r)
    (ap (λ l. map (λ (place : Place). get_or l place.family []) (places_in ns (suc first) fs)) (shift before (cell_values W f) (map (cell_values W) fs))
    ∙ by_place W ns (before ++ cell_values W f ∷ []) (suc first) fs (ap suc e ∙ sym (one_longer before (cell_values W f))) many)
  where
    here : (before : List (List AbsValue)) (v : List AbsValue) (rest : List (List AbsValue)) (k : ℕ) → k ≡ length before → get_or (before ++ v ∷ rest) k [] ≡ v
    here [] v rest k e = ap (λ j. get_or (v ∷ rest) j []) e
    here (b ∷ before) v rest zero e = absurd (omega (arith, e))
    here (b ∷ before) v rest (suc k) e = here before v rest k (omega (arith, e))

    shift : (before : List (List AbsValue)) (v : List AbsValue) (rest : List (List AbsValue)) → before ++ v ∷ rest ≡ (before ++ v ∷ []) ++ rest
    shift [] v rest = refl
    shift (b ∷ before) v rest = ap (λ r. b ∷ r) (shift before v rest)

    one_longer : (before : List (List AbsValue)) (v : List AbsValue) → length (before ++ v ∷ []) ≡ suc (length before)
    one_longer [] v = refl
    one_longer (b ∷ before) v = ap suc (one_longer before v)

pub lists_by_place : (W : Window) (families : List (List AbsValue)) (ps : List Place) → families ≡ map (cell_values W) W.families → ps ≡ places W
    → map (λ (place : Place). get_or families place.family []) ps ≡ cell_lists W
lists_by_place W families ps is at =
    ap (λ l. map (λ (place : Place). get_or l place.family []) ps) is ∙ ap (map (λ (place : Place). get_or (map (cell_values W) W.families) place.family [])) at
    ∙ by_place W (window_nodes W) [] 0 W.families refl (window_size W)

pub ruleset windows = (values_all, placed_all, made_none)
