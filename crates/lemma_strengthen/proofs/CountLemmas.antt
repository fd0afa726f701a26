-- Going over the numbers below one, and over choices of window nodes one variable after another.
use Rattle.std.proofs.Common.{◌≡◌, ℕ, zero, suc, ◌+◌, ◌-◌, ◌<◌, ◌≤◌, List, [], ◌∷◌, ◌++◌, map, Option, Some, None, refl, sym, ap, ◌∙◌, append_assoc, arith}
use Rattle.std.specs.List.{flat_map}
use Rattle.std.specs.Option.{MatchOption}
use Rattle.term_core.specs.declared.term.Term as t
use Rattle.term_core.specs.declared.term.Term.{Term}
use Rattle.term_core.specs.Nodes.{nodes_from, choices}
use Rattle.term_core.specs.Values.{below}
use Rattle.term_core.specs.Substitution.{placed}
use Rattle.lemma_strengthen.specs.Opening.{instances}
use Rattle.lemma_strengthen.specs.OpenLists.{instances_after}

-- the first of the numbers that are left
pub counts_more : (first n N : ℕ) → n < N → nodes_from first (N - n) ≡ first ∷ nodes_from (suc first) (N - suc n)
counts_more first n N h = let e : N - n ≡ suc (N - suc n) = omega arith in ap (nodes_from first) e

pub counts_none : (first n N : ℕ) → N ≤ n → nodes_from first (N - n) ≡ []
counts_none first n N h = let e : N - n ≡ zero = omega arith in ap (nodes_from first) e

-- one number more
pub over_more : (g : ℕ → List Term) (out out' whole : List Term) (n count : ℕ) → n < count → out' ≡ out ++ g n → out ++ flat_map g (nodes_from n (count - n)) ≡ whole → out' ++ flat_map g (nodes_from (n + 1) (count - (n + 1))) ≡ whole
over_more g out out' whole n count less is all =
    let next : n + 1 ≡ suc n = omega arith in
    ap (λ k. out' ++ flat_map g (nodes_from k (count - k))) next
    ∙ ap (λ o. o ++ flat_map g (nodes_from (suc n) (count - suc n))) is
    ∙ append_assoc out (g n) (flat_map g (nodes_from (suc n) (count - suc n)))
    ∙ ap (λ ks. out ++ flat_map g ks) (sym (counts_more n n count less))
    ∙ all

pub variables_more : (out out' whole : List Term) (n count : ℕ) → n < count → out' ≡ out ++ t.Var n ∷ [] → out ++ map (λ k. t.Var k) (nodes_from n (count - n)) ≡ whole → out' ++ map (λ k. t.Var k) (nodes_from (n + 1) (count - (n + 1))) ≡ whole
variables_more out out' whole n count less is all =
    let next : n + 1 ≡ suc n = omega arith in
    ap (λ k. out' ++ map (λ j. t.Var j) (nodes_from k (count - k))) next
    ∙ ap (λ o. o ++ map (λ j. t.Var j) (nodes_from (suc n) (count - suc n))) is
    ∙ append_assoc out (t.Var n ∷ []) (map (λ j. t.Var j) (nodes_from (suc n) (count - suc n)))
    ∙ ap (λ ks. out ++ map (λ j. t.Var j) ks) (sym (counts_more n n count less))
    ∙ all

-- a list with its last element taken out
last_is : (xs ys : List Term) (x y : Term) → xs ++ x ∷ [] ≡ ys ++ y ∷ [] → xs ≡ ys
last_is [] [] x y e = refl
last_is [] (b ∷ []) x y e = cc
last_is [] (b ∷ c ∷ ys) x y e = cc
last_is (a ∷ []) [] x y e = cc
last_is (a ∷ b ∷ xs) [] x y e = cc
last_is (a ∷ xs) (b ∷ ys) x y e =
    let head : a ≡ b = cc in
    let rest : xs ++ x ∷ [] ≡ ys ++ y ∷ [] = cc in
    ap (λ z. z ∷ xs) head ∙ ap (λ zs. b ∷ zs) (last_is xs ys x y rest)

pub popped : (r : Option Term) (old new names : List Term) (x : Term) → MatchOption r ((old ≡ []) × (new ≡ [])) (λ last. old ≡ new ++ last ∷ []) → old ≡ names ++ x ∷ [] → new ≡ names
popped (Some last) old new names x m e = last_is new names last x (sym m ∙ e)
popped None old new [] x m e = m.1
popped None old new (n ∷ names) x m e = let both : [] ≡ n ∷ (names ++ x ∷ []) = sym m.0 ∙ e in cc

-- one variable after another
pub after_none : (window : ℕ) (body : Term) (left : ℕ) (names : List Term) → left ≡ 0 → instances_after window body left names ≡ placed window names body ∷ []
after_none window body left names e = ap (λ l. instances_after window body l names) e

pub after_more : (window : ℕ) (body : Term) (left : ℕ) (names : List Term) → 0 < left → instances_after window body left names ≡ flat_map (λ k. instances_after window body (left - 1) (names ++ t.Var k ∷ [])) (below window)
after_more window body left names h = let e : left ≡ suc (left - 1) = omega (arith, h) in ap (λ l. instances_after window body l names) e

map_same : {X Y : Type 0} (f g : X → Y) (xs : List X) → ((x : X) → f x ≡ g x) → map f xs ≡ map g xs
map_same f g [] same = refl
map_same f g (x ∷ xs) same = ap (λ y. y ∷ map f xs) (same x) ∙ ap (λ ys. g x ∷ ys) (map_same f g xs same)

map_twice : {X Y Z : Type 0} (f : Y → Z) (g : X → Y) (xs : List X) → map f (map g xs) ≡ map (λ x. f (g x)) xs
map_twice f g [] = refl
map_twice f g (x ∷ xs) = ap (λ ys. f (g x) ∷ ys) (map_twice f g xs)

map_both : {X Y : Type 0} (f : X → Y) (xs ys : List X) → map f (xs ++ ys) ≡ map f xs ++ map f ys
map_both f [] ys = refl
map_both f (x ∷ xs) ys = ap (λ zs. f x ∷ zs) (map_both f xs ys)

-- the instances with the names so far before those of a choice
abbrev named : ℕ → Term → List Term → List ℕ → Term
named window body names ns = placed window (names ++ map (λ n. t.Var (n - 1)) ns) body

-- over the nodes, which are one more than the numbers below
each_block : (window : ℕ) (body : Term) (names : List Term) (left first count : ℕ) → ((names : List Term) → instances_after window body left names ≡ map (named window body names) (choices window left))
    → flat_map (λ k. instances_after window body left (names ++ t.Var k ∷ [])) (nodes_from first count) ≡ map (named window body names) (flat_map (λ n. map (λ ns. n ∷ ns) (choices window left)) (nodes_from (suc first) count))
each_block window body names left first zero again = refl
each_block window body names left first (suc count) again =
    let this : suc first - 1 ≡ first = omega arith in
    ap (λ xs. xs ++ flat_map (λ k. instances_after window body left (names ++ t.Var k ∷ [])) (nodes_from (suc first) count)) (again (names ++ t.Var first ∷ []))
    ∙ ap (λ xs. map (named window body (names ++ t.Var first ∷ [])) (choices window left) ++ xs) (each_block window body names left (suc first) count again)
    ∙ ap (λ xs. xs ++ map (named window body names) (flat_map (λ n. map (λ ns. n ∷ ns) (choices window left)) (nodes_from (suc (suc first)) count)))
    (map_same (named window body (names ++ t.Var first ∷ [])) (λ ns. named window body names (suc first ∷ ns)) (choices window left)
    (λ ns. ap (λ vs. placed window vs body) (append_assoc names (t.Var first ∷ []) (map (λ n. t.Var (n - 1)) ns) ∙ ap (λ k. names ++ t.Var k ∷ map (λ n. t.Var (n - 1)) ns) (sym this)))
    ∙ sym (map_twice (named window body names) (λ ns. suc first ∷ ns) (choices window left)))
    ∙ sym (map_both (named window body names) (map (λ ns. suc first ∷ ns) (choices window left)) (flat_map (λ n. map (λ ns. n ∷ ns) (choices window left)) (nodes_from (suc (suc first)) count)))

nothing_after : (names : List Term) → names ++ [] ≡ names
nothing_after [] = refl
nothing_after (x ∷ xs) = ap (λ ys. x ∷ ys) (nothing_after xs)

after_is : (window : ℕ) (body : Term) (left : ℕ) (names : List Term) → instances_after window body left names ≡ map (named window body names) (choices window left)
after_is window body zero names = ap (λ vs. placed window vs body ∷ []) (sym (nothing_after names))
after_is window body (suc left) names = each_block window body names left 0 window (after_is window body left)

-- with no names before they are the instances
pub instances_are : (window prefix : ℕ) (body : Term) → instances_after window body prefix [] ≡ instances window prefix body
instances_are window prefix body = after_is window body prefix []

pub ruleset counting = (counts_more, counts_none, after_none, after_more)
