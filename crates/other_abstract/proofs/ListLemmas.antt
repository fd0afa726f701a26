-- Lists that code goes through: what is left of them, and what a step adds.
use Rattle.std.proofs.Common.{◌≡◌, ℕ, zero, suc, ◌+◌, ◌-◌, ◌<◌, ◌≤◌, max, List, [], ◌∷◌, ◌++◌, map, Option, Some, None, refl, sym, ap, ◌∙◌, append_assoc, append-nil, arith}
use Rattle.std.specs.List.{flat_map}
use Rattle.std.specs.Option.{MatchOption}
use Rattle.term_core.specs.Nodes.{nodes, nodes_from}
use Rattle.other_abstract.specs.declared.node.AbsNode.{AbsNode}
use Rattle.other_abstract.specs.declared.node.AbsNode.TheVariants.{Kept, Fired}
use Rattle.other_abstract.specs.Patterns.{patterns_from, patterns_after}

-- one number more of those after the first
pub counts_more : (n count : ℕ) → n < count → nodes_from (n + 1) (count - n) ≡ (n + 1) ∷ nodes_from (n + 1 + 1) (count - (n + 1))
counts_more n count less =
    let e : count - n ≡ suc (count - (n + 1)) = omega arith in
    let f : suc (n + 1) ≡ n + 1 + 1 = omega arith in
    ap (nodes_from (n + 1)) e ∙ ap (λ k. (n + 1) ∷ nodes_from k (count - (n + 1))) f

pub over_more : {X : Type 0} (g : ℕ → List X) (out out' whole : List X) (n count : ℕ) → n < count → out' ≡ out ++ g (n + 1) → out ++ flat_map g (nodes_from (n + 1) (count - n)) ≡ whole → out' ++ flat_map g (nodes_from (n + 1 + 1) (count - (n + 1))) ≡ whole
over_more g out out' whole n count less is all =
    ap (λ o. o ++ flat_map g (nodes_from (n + 1 + 1) (count - (n + 1)))) is
    ∙ append_assoc out (g (n + 1)) (flat_map g (nodes_from (n + 1 + 1) (count - (n + 1))))
    ∙ ap (λ ks. out ++ flat_map g ks) (sym (counts_more n count less))
    ∙ all

pub over_none : {X : Type 0} (g : ℕ → List X) (out whole : List X) (n count : ℕ) → count ≤ n → out ++ flat_map g (nodes_from (n + 1) (count - n)) ≡ whole → out ≡ whole
over_none g out whole n count past all =
    let e : count - n ≡ zero = omega arith in
    sym (append-nil out) ∙ ap (λ k. out ++ flat_map g (nodes_from (n + 1) k)) (sym e) ∙ all

-- a list with its last element taken out
last_is : {X : Type 0} (xs ys : List X) (x y : X) → xs ++ x ∷ [] ≡ ys ++ y ∷ [] → xs ≡ ys
last_is [] [] x y e = refl
last_is [] (b ∷ []) x y e = cc
last_is [] (b ∷ c ∷ ys) x y e = cc
last_is (a ∷ []) [] x y e = cc
last_is (a ∷ b ∷ xs) [] x y e = cc
last_is (a ∷ xs) (b ∷ ys) x y e =
    let head : a ≡ b = cc in
    let rest : xs ++ x ∷ [] ≡ ys ++ y ∷ [] = cc in
    ap (λ z. z ∷ xs) head ∙ ap (λ zs. b ∷ zs) (last_is xs ys x y rest)

pub popped : {X : Type 0} (r : Option X) (old new names : List X) (x : X) → MatchOption r ((old ≡ []) × (new ≡ [])) (λ last. old ≡ new ++ last ∷ []) → old ≡ names ++ x ∷ [] → new ≡ names
popped (Some last) old new names x m e = last_is new names last x (sym m ∙ e)
popped None old new [] x m e = m.1
popped None old new (n ∷ names) x m e = let both : [] ≡ n ∷ (names ++ x ∷ []) = sym m.0 ∙ e in cc

-- patterns, one node after another
pub after_none : (m fired left : ℕ) (front : List AbsNode) → left ≡ 0 → patterns_after m fired left front ≡ front ∷ []
after_none m fired left front e = ap (λ l. patterns_after m fired l front) e

pub after_more : (m fired left : ℕ) (front : List AbsNode) → 0 < left → patterns_after m fired left front
    ≡ flat_map (λ k. patterns_after m fired (left - 1) (front ++ Kept k ∷ [])) (nodes m) ++ flat_map (λ k. patterns_after m (max fired k) (left - 1) (front ++ Fired k ∷ [])) (nodes (suc fired))
after_more m fired left front h = let e : left ≡ suc (left - 1) = omega (arith, h) in ap (λ l. patterns_after m fired l front) e

pub map_over : {Y Z : Type 0} (f : Y → Z) (xs ys : List Y) → map f (xs ++ ys) ≡ map f xs ++ map f ys
map_over f [] ys = refl
map_over f (x ∷ xs) ys = ap (λ zs. f x ∷ zs) (map_over f xs ys)

named : (front : List AbsNode) (n : AbsNode) (ps : List (List AbsNode)) → map (λ p. (front ++ n ∷ []) ++ p) ps ≡ map (λ p. front ++ p) (map (λ p. n ∷ p) ps)
named front n [] = refl
named front n (p ∷ ps) = ap (λ q. q ∷ map (λ p. (front ++ n ∷ []) ++ p) ps) (append_assoc front (n ∷ []) p) ∙ ap (λ qs. (front ++ n ∷ p) ∷ qs) (named front n ps)

headed_after : (name : ℕ → AbsNode) (rests afters : ℕ → List (List AbsNode)) (front : List AbsNode) (ks : List ℕ) → ((k : ℕ) → afters k ≡ map (λ p. (front ++ name k ∷ []) ++ p) (rests k))
    → flat_map afters ks ≡ map (λ p. front ++ p) (flat_map (λ k. map (λ p. name k ∷ p) (rests k)) ks)
headed_after name rests afters front [] is = refl
headed_after name rests afters front (k ∷ ks) is =
    ap (λ xs. xs ++ flat_map afters ks) (is k ∙ named front (name k) (rests k))
    ∙ ap (λ ys. map (λ p. front ++ p) (map (λ p. name k ∷ p) (rests k)) ++ ys) (headed_after name rests afters front ks is)
    ∙ sym (map_over (λ p. front ++ p) (map (λ p. name k ∷ p) (rests k)) (flat_map (λ k. map (λ p. name k ∷ p) (rests k)) ks))

after_is : (m fired left : ℕ) (front : List AbsNode) → patterns_after m fired left front ≡ map (λ p. front ++ p) (patterns_from m fired left)
after_is m fired zero front = ap (λ p. p ∷ []) (sym (append-nil front))
after_is m fired (suc left) front =
    ap (λ xs. xs ++ flat_map (λ k. patterns_after m (max fired k) left (front ++ Fired k ∷ [])) (nodes (suc fired)))
    (headed_after Kept (λ k. patterns_from m fired left) (λ k. patterns_after m fired left (front ++ Kept k ∷ [])) front (nodes m) (λ k. after_is m fired left (front ++ Kept k ∷ [])))
    ∙ ap (λ ys. map (λ p. front ++ p) (flat_map (λ k. map (λ p. Kept k ∷ p) (patterns_from m fired left)) (nodes m)) ++ ys)
    (headed_after Fired (λ k. patterns_from m (max fired k) left) (λ k. patterns_after m (max fired k) left (front ++ Fired k ∷ [])) front (nodes (suc fired)) (λ k. after_is m (max fired k) left (front ++ Fired k ∷ [])))
    ∙ sym (map_over (λ p. front ++ p) (flat_map (λ k. map (λ p. Kept k ∷ p) (patterns_from m fired left)) (nodes m)) (flat_map (λ k. map (λ p. Fired k ∷ p) (patterns_from m (max fired k) left)) (nodes (suc fired))))

map_none : (ps : List (List AbsNode)) → map (λ p. [] ++ p) ps ≡ ps
map_none [] = refl
map_none (p ∷ ps) = ap (λ qs. p ∷ qs) (map_none ps)

-- with no nodes so far they are all
pub after_nothing : (m left : ℕ) → patterns_after m 0 left [] ≡ patterns_from m 0 left
after_nothing m left = after_is m 0 left [] ∙ map_none (patterns_from m 0 left)

-- the patterns that go on with a kept node, then those that go on with a fired one
pub both_added : (m fired left : ℕ) (front front' : List AbsNode) (out out' out'' : List (List AbsNode)) → 0 < left → front' ≡ front
    → out' ≡ out ++ flat_map (λ k. patterns_after m fired (left - 1) (front ++ Kept k ∷ [])) (nodes m)
    → out'' ≡ out' ++ flat_map (λ k. patterns_after m (max fired k) (left - 1) (front' ++ Fired k ∷ [])) (nodes (suc fired))
    → out'' ≡ out ++ patterns_after m fired left front
both_added m fired left front front' out out' out'' some same kept more =
    more
    ∙ ap (λ f. out' ++ flat_map (λ k. patterns_after m (max fired k) (left - 1) (f ++ Fired k ∷ [])) (nodes (suc fired))) same
    ∙ ap (λ o. o ++ flat_map (λ k. patterns_after m (max fired k) (left - 1) (front ++ Fired k ∷ [])) (nodes (suc fired))) kept
    ∙ append_assoc out (flat_map (λ k. patterns_after m fired (left - 1) (front ++ Kept k ∷ [])) (nodes m)) (flat_map (λ k. patterns_after m (max fired k) (left - 1) (front ++ Fired k ∷ [])) (nodes (suc fired)))
    ∙ ap (λ w. out ++ w) (sym (after_more m fired left front some))

pub ruleset listing = (after_none, after_more, over_none, after_nothing)
