-- The list of patterns has each pattern, and nothing else.
use Rattle.std.proofs.Common.{◌≡◌, ◌⊎◌, ℕ, zero, suc, max, Bool, true, false, ◌&&◌, List, [], ◌∷◌, ◌++◌, map, length, inl, inr, refl, sym, ap, ◌∙◌, arith}
use Rattle.std.specs.Prelude.{◌-◌, ◌<◌, ◌≤◌, nat_lt, Some, slice_get}
use Rattle.std.specs.List.{list_any, flat_map, Contains}
use Rattle.std.proofs.lemmas.Option.{slice_get-get_or, get_or_from_slice_get}
use Rattle.term_core.specs.declared.machine.TermRule.{TermRule}
use Rattle.term_core.specs.Firing.{node_parameters}
use Rattle.std.proofs.lemmas.Bool.{and_parts, or_cases}
use Rattle.term_core.specs.Nodes.{nodes, nodes_from, is_node}
use Rattle.other_abstract.specs.declared.node.AbsNode.{AbsNode}
use Rattle.other_abstract.specs.declared.node.AbsNode.TheVariants.{Kept, Fired, Other}
use Rattle.other_abstract.specs.Windows.{same_node}
use Rattle.other_abstract.specs.Machines.{is_numbered, IsPattern}
use Rattle.other_abstract.specs.Patterns.{patterns_from, patterns_of}
use Rattle.other_abstract.proofs.NodeLemmas.{same_node_self, same_node_is, get_some_below, get_first, get_past}
use Rattle.other_abstract.proofs.TestLemmas.{Passing, any_nodes, any_node, any_map, any_append, and_both, or_first, or_second}
use Rattle.other_abstract.proofs.ViolationLemmas.{any_flat}

abbrev pub IsNumbered : ℕ → ℕ → ℕ → List AbsNode → Type 0
IsNumbered m fired count p = (length p ≡ count) × (is_numbered m fired p ≡ true)

pub patterns_in : (m fired count : ℕ) (q : List AbsNode → Bool) → list_any q (patterns_from m fired count) ≡ true → Passing (IsNumbered m fired count) q
patterns_in m fired zero q h = elim (or_cases (q []) false h) [ inl e ↦ record { value = []; may = (refl, refl); passes = e } | inr e ↦ absurd cc ]
patterns_in m fired (suc count) q h =
    let kept = flat_map (λ k. map (λ p. Kept k ∷ p) (patterns_from m fired count)) (nodes m) in
    let more = flat_map (λ k. map (λ p. Fired k ∷ p) (patterns_from m (max fired k) count)) (nodes (suc fired)) in
    elim (or_cases (list_any q kept) (list_any q more) (sym (any_append q kept more) ∙ h)) [
      | inl e ↦
          let r = any_nodes m (λ k. list_any q (map (λ p. Kept k ∷ p) (patterns_from m fired count))) (sym (any_flat q (λ k. map (λ p. Kept k ∷ p) (patterns_from m fired count)) (nodes m)) ∙ e) in
          let s = patterns_in m fired count (λ p. q (Kept r.value ∷ p)) (sym (any_map q (λ p. Kept r.value ∷ p) (patterns_from m fired count)) ∙ r.passes) in
          record { value = Kept r.value ∷ s.value; may = (ap suc s.may.0, and_both _ _ r.may s.may.1); passes = s.passes }
      | inr e ↦
          let r = any_nodes (suc fired) (λ k. list_any q (map (λ p. Fired k ∷ p) (patterns_from m (max fired k) count))) (sym (any_flat q (λ k. map (λ p. Fired k ∷ p) (patterns_from m (max fired k) count)) (nodes (suc fired))) ∙ e) in
          let s = patterns_in m (max fired r.value) count (λ p. q (Fired r.value ∷ p)) (sym (any_map q (λ p. Fired r.value ∷ p) (patterns_from m (max fired r.value) count)) ∙ r.passes) in
          record { value = Fired r.value ∷ s.value; may = (ap suc s.may.0, and_both _ _ r.may s.may.1); passes = s.passes }
    ]

pub patterns_has : (m fired count : ℕ) (q : List AbsNode → Bool) (p : List AbsNode) → IsNumbered m fired count p → q p ≡ true → list_any q (patterns_from m fired count) ≡ true
patterns_has m fired zero q [] is h = or_first (q []) false h
patterns_has m fired zero q (n ∷ p) is h = let e : suc (length p) ≡ 0 = is.0 in absurd (omega (arith, e))
patterns_has m fired (suc count) q [] is h = let e : 0 ≡ suc count = is.0 in absurd (omega (arith, e))
patterns_has m fired (suc count) q (Other ∷ p) is h = absurd (let e : false ≡ true = is.1 in cc)
patterns_has m fired (suc count) q (Kept k ∷ p) is h =
    let a = and_parts (is_node m k) (is_numbered m fired p) is.1 in
    let e : suc (length p) ≡ suc count = is.0 in let l : length p ≡ count = omega (arith, e) in
    any_append q (flat_map (λ k. map (λ p. Kept k ∷ p) (patterns_from m fired count)) (nodes m)) (flat_map (λ k. map (λ p. Fired k ∷ p) (patterns_from m (max fired k) count)) (nodes (suc fired)))
    ∙ or_first _ _ (any_flat q (λ k. map (λ p. Kept k ∷ p) (patterns_from m fired count)) (nodes m)
    ∙ any_node m (λ k. list_any q (map (λ p. Kept k ∷ p) (patterns_from m fired count))) k a.0 (any_map q (λ p. Kept k ∷ p) (patterns_from m fired count) ∙ patterns_has m fired count (λ p. q (Kept k ∷ p)) p (l, a.1) h))
patterns_has m fired (suc count) q (Fired k ∷ p) is h =
    let a = and_parts (is_node (suc fired) k) (is_numbered m (max fired k) p) is.1 in
    let e : suc (length p) ≡ suc count = is.0 in let l : length p ≡ count = omega (arith, e) in
    any_append q (flat_map (λ k. map (λ p. Kept k ∷ p) (patterns_from m fired count)) (nodes m)) (flat_map (λ k. map (λ p. Fired k ∷ p) (patterns_from m (max fired k) count)) (nodes (suc fired)))
    ∙ or_second (list_any q (flat_map (λ k. map (λ p. Kept k ∷ p) (patterns_from m fired count)) (nodes m))) _ (any_flat q (λ k. map (λ p. Fired k ∷ p) (patterns_from m (max fired k) count)) (nodes (suc fired))
    ∙ any_node (suc fired) (λ k. list_any q (map (λ p. Fired k ∷ p) (patterns_from m (max fired k) count))) k a.0 (any_map q (λ p. Fired k ∷ p) (patterns_from m (max fired k) count) ∙ patterns_has m (max fired k) count (λ p. q (Fired k ∷ p)) p (l, a.1) h))

-- whether two patterns are one
same_nodes : List AbsNode → List AbsNode → Bool
same_nodes [] [] = true
same_nodes (x ∷ xs) (y ∷ ys) = same_node x y && same_nodes xs ys
same_nodes _ _ = false

same_nodes_self : (p : List AbsNode) → same_nodes p p ≡ true
unfolding same_nodes
same_nodes_self [] = refl
same_nodes_self (x ∷ xs) = and_both (same_node x x) (same_nodes xs xs) (same_node_self x) (same_nodes_self xs)

same_nodes_is : (p q : List AbsNode) → same_nodes p q ≡ true → p ≡ q
unfolding same_nodes
same_nodes_is [] [] h = refl
same_nodes_is [] (y ∷ ys) h = cc
same_nodes_is (x ∷ xs) [] h = cc
same_nodes_is (x ∷ xs) (y ∷ ys) h =
    let p = and_parts (same_node x y) (same_nodes xs ys) h in
    ap (λ z. z ∷ xs) (same_node_is x y p.0) ∙ ap (λ zs. y ∷ zs) (same_nodes_is xs ys p.1)

-- what passes a test stands somewhere
pub record Stands {X : Type 0} (xs : List X) (q : X → Bool) : Type 0 where
  pub place : ℕ
  pub value : X
  pub there : slice_get xs place ≡ Some value
  pub passes : q value ≡ true

pub any_stands : {X : Type 0} (q : X → Bool) (xs : List X) → list_any q xs ≡ true → Stands xs q
any_stands q [] h = cc
any_stands {X} q (x ∷ xs) h = go (or_cases (q x) (list_any q xs) h) (λ e. any_stands q xs e)
  where
    go : (q x ≡ true) ⊎ (list_any q xs ≡ true) → (list_any q xs ≡ true → Stands xs q) → Stands (x ∷ xs) q
    go (inl e) rest = record { place = 0; value = x; there = refl; passes = e }
    go (inr e) rest = let r = rest e in record { place = suc r.place; value = r.value; there = r.there; passes = r.passes }

some_is : {X : Type 0} {a b : X} → Some a ≡ Some b → a ≡ b
some_is e = cc

pub stands_any : {X : Type 0} (q : X → Bool) (xs : List X) (k : ℕ) (x : X) → slice_get xs k ≡ Some x → q x ≡ true → list_any q xs ≡ true
stands_any q [] k x e h = cc
stands_any q (y ∷ ys) zero x e h = or_first (q y) (list_any q ys) (ap q (some_is e) ∙ h)
stands_any q (y ∷ ys) (suc k) x e h = or_second (q y) (list_any q ys) (stands_any q ys k x e h)

pub get_contains : {X : Type 0} (xs : List X) (k : ℕ) (x : X) → slice_get xs k ≡ Some x → Contains xs x
get_contains xs k x e = (k, get_some_below xs k x e, get_or_from_slice_get xs k x x e)

pub contains_get : {X : Type 0} (xs : List X) (x : X) → Contains xs x → (k : ℕ) × (slice_get xs k ≡ Some x)
contains_get xs x (k, less, e) = (k, slice_get-get_or xs k x less ∙ ap Some e)

pub pattern_listed : (m : ℕ) (r : TermRule) (p : List AbsNode) → IsPattern m r p → Contains (patterns_of m r) p
pattern_listed m r p is =
    let s = any_stands (same_nodes p) (patterns_of m r) (patterns_has m 0 (node_parameters r) (same_nodes p) p (is.count, is.numbered) (same_nodes_self p)) in
    get_contains (patterns_of m r) s.place p (s.there ∙ ap Some (sym (same_nodes_is p s.value s.passes)))

pub listed_pattern : (m : ℕ) (r : TermRule) (p : List AbsNode) → Contains (patterns_of m r) p → IsPattern m r p
listed_pattern m r p c =
    let g = contains_get (patterns_of m r) p c in
    let s = patterns_in m 0 (node_parameters r) (same_nodes p) (stands_any (same_nodes p) (patterns_of m r) g.0 p g.1 (same_nodes_self p)) in
    let e : p ≡ s.value = same_nodes_is p s.value s.passes in
    record { count = ap length e ∙ s.may.0; numbered = ap (is_numbered m 0) e ∙ s.may.1 }

-- lists without repetition
abbrev Once : {X : Type 0} → List X → Type 0
Once {X} xs = (i j : ℕ) (x : X) → slice_get xs i ≡ Some x → slice_get xs j ≡ Some x → i ≡ j

once_one : {X : Type 0} (x : X) → Once (x ∷ [])
once_one x zero zero y e f = refl
once_one x zero (suc j) y e f = cc
once_one x (suc i) j y e f = cc

once_append : {X : Type 0} (xs ys : List X) → Once xs → Once ys → ((i j : ℕ) (x : X) → slice_get xs i ≡ Some x → slice_get ys j ≡ Some x → ⊥) → Once (xs ++ ys)
once_append [] ys f g apart = g
once_append {X} (x ∷ xs) ys f g apart = go (once_append xs ys (λ i j y e h. let s : suc i ≡ suc j = f (suc i) (suc j) y e h in omega (arith, s)) g (λ i j y e h. apart (suc i) j y e h))
  where
    nowhere : (j : ℕ) → slice_get (xs ++ ys) j ≡ Some x → ⊥
    nowhere j e = pick (nat_lt j (length xs)) refl
      where
        pick : (b : Bool) → nat_lt j (length xs) ≡ b → ⊥
        pick true was =
            let l : j < length xs = grind (arith, was) in
            let s : 0 ≡ suc j = f 0 (suc j) x refl (sym (get_first xs ys j l) ∙ e) in
            absurd (omega (arith, s))
        pick false was =
            let l : length xs ≤ j = grind (arith, was) in
            apart 0 (j - length xs) x refl (sym (get_past xs ys j l) ∙ e)

    go : Once (xs ++ ys) → Once (x ∷ (xs ++ ys))
    go rest zero zero y e h = refl
    go rest zero (suc j) y e h = absurd (nowhere j (h ∙ sym e))
    go rest (suc i) zero y e h = absurd (nowhere i (e ∙ sym h))
    go rest (suc i) (suc j) y e h = ap suc (rest i j y e h)

pub map_get : {X Y : Type 0} (g : X → Y) (xs : List X) (k : ℕ) (y : Y) → slice_get (map g xs) k ≡ Some y → (x : X) × (slice_get xs k ≡ Some x) × (g x ≡ y)
map_get g [] k y e = cc
map_get g (x ∷ xs) zero y e = (x, refl, some_is e)
map_get g (x ∷ xs) (suc k) y e = map_get g xs k y e

once_map : {X Y : Type 0} (g : X → Y) (xs : List X) → ((a b : X) → g a ≡ g b → a ≡ b) → Once xs → Once (map g xs)
once_map g xs into once i j y e h =
    let a = map_get g xs i y e in
    let b = map_get g xs j y h in
    once i j a.0 a.1 (b.1 ∙ ap Some (into b.0 a.0 (b.2 ∙ sym a.2)))

-- a pattern that begins with the name of a node from this one on
record Headed (name : ℕ → AbsNode) (first : ℕ) (p : List AbsNode) : Type 0 where
  node : ℕ
  from : first ≤ node
  rest : List AbsNode
  is : name node ∷ rest ≡ p

abbrev headed : (ℕ → AbsNode) → (ℕ → List (List AbsNode)) → ℕ → ℕ → List (List AbsNode)
headed name rests first count = flat_map (λ k. map (λ p. name k ∷ p) (rests k)) (nodes_from first count)

head_of : (name : ℕ → AbsNode) (rests : ℕ → List (List AbsNode)) (first count i : ℕ) (p : List AbsNode) → slice_get (headed name rests first count) i ≡ Some p → Headed name first p
head_of name rests first zero i p e = cc
head_of name rests first (suc count) i p e = pick (nat_lt i (length here)) refl (λ j f. head_of name rests (suc first) count j p f)
  where
    here : List (List AbsNode)
    here = map (λ q. name first ∷ q) (rests first)

    pick : (b : Bool) → nat_lt i (length here) ≡ b → ((j : ℕ) → slice_get (headed name rests (suc first) count) j ≡ Some p → Headed name (suc first) p) → Headed name first p
    pick true was later =
        let l : i < length here = grind (arith, was) in
        let g = map_get (λ q. name first ∷ q) (rests first) i p (sym (get_first here (headed name rests (suc first) count) i l) ∙ e) in
        record { node = first; from = omega arith; rest = g.0; is = g.2 }
    pick false was later =
        let l : length here ≤ i = grind (arith, was) in
        let r = later (i - length here) (sym (get_past here (headed name rests (suc first) count) i l) ∙ e) in
        record { node = r.node; from = omega (arith, r.from); rest = r.rest; is = r.is }

first_is : {a b : AbsNode} {p q : List AbsNode} → a ∷ p ≡ b ∷ q → a ≡ b
first_is e = cc

rest_is : {a b : AbsNode} {p q : List AbsNode} → a ∷ p ≡ b ∷ q → p ≡ q
rest_is e = cc

once_headed : (name : ℕ → AbsNode) (rests : ℕ → List (List AbsNode)) (first count : ℕ) → ((a b : ℕ) → name a ≡ name b → a ≡ b) → ((k : ℕ) → Once (rests k)) → Once (headed name rests first count)
once_headed name rests first zero into once = λ i j x e h. absurd cc
once_headed name rests first (suc count) into once =
    once_append (map (λ q. name first ∷ q) (rests first)) (headed name rests (suc first) count)
    (once_map (λ q. name first ∷ q) (rests first) (λ a b e. rest_is e) (once first))
    (once_headed name rests (suc first) count into once)
    (λ i j x e h.
    let g = map_get (λ q. name first ∷ q) (rests first) i x e in
    let r = head_of name rests (suc first) count j x h in
    let same : first ≡ r.node = into first r.node (first_is (g.2 ∙ sym r.is)) in
    absurd (omega (arith, same, r.from)))

kept_same : (a b : ℕ) → Kept a ≡ Kept b → a ≡ b
kept_same a b e = cc

fired_same : (a b : ℕ) → Fired a ≡ Fired b → a ≡ b
fired_same a b e = cc

once_patterns : (m fired count : ℕ) → Once (patterns_from m fired count)
once_patterns m fired zero = once_one []
once_patterns m fired (suc count) =
    once_append (headed Kept (λ k. patterns_from m fired count) 1 m) (headed Fired (λ k. patterns_from m (max fired k) count) 1 (suc fired))
    (once_headed Kept (λ k. patterns_from m fired count) 1 m kept_same (λ k. once_patterns m fired count))
    (once_headed Fired (λ k. patterns_from m (max fired k) count) 1 (suc fired) fired_same (λ k. once_patterns m (max fired k) count))
    (λ i j x e h.
    let a = head_of Kept (λ k. patterns_from m fired count) 1 m i x e in
    let b = head_of Fired (λ k. patterns_from m (max fired k) count) 1 (suc fired) j x h in
    let same : Kept a.node ≡ Fired b.node = first_is (a.is ∙ sym b.is) in
    absurd cc)

pub patterns_once : (m : ℕ) (r : TermRule) (i j : ℕ) (p : List AbsNode) → slice_get (patterns_of m r) i ≡ Some p → slice_get (patterns_of m r) j ≡ Some p → i ≡ j
patterns_once m r = once_patterns m 0 (node_parameters r)
