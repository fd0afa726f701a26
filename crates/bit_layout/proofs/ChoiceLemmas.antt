-- Choices: a rule by its number, with a pattern.
use Rattle.std.proofs.Common.{◌≡◌, ◌⊎◌, inl, inr, ℕ, zero, suc, ◌+◌, ◌<◌, ◌≤◌, Bool, true, List, [], ◌∷◌, ◌++◌, map, length, get_or, take, drop, Some, refl, sym, ◌∙◌, ap, subst, arith}
use Rattle.std.specs.Prelude.{slice_get}
use Rattle.std.specs.List.{Contains, All}
use Rattle.std.proofs.lemmas.List.{take_more, take_all, drop_more, map-append}
use Rattle.std.proofs.lemmas.Option.{slice_get-get_or}
use Rattle.term_core.specs.declared.machine.TermRule.{TermRule}
use Rattle.other_abstract.specs.declared.node.AbsNode.{AbsNode}
use Rattle.other_abstract.specs.Machines.{IsPattern, fired_of}
use Rattle.other_abstract.specs.Patterns.{patterns_of}
use Rattle.other_abstract.specs.Laws.{PatternsAreListed}
use Rattle.term_core.specs.Firing.{node_parameters}
use Rattle.bit_layout.specs.Laws.{ChoicesAreListed}
use Rattle.bit_layout.specs.declared.choice.Choice.{Choice}
use Rattle.bit_layout.specs.Choices.{choices_with, choices_of, choices_from, most_fired, passes_at}

-- Lists

get_front : {X : Type 0} (xs ys : List X) (n : ℕ) (x : X) → slice_get xs n ≡ Some x → slice_get (xs ++ ys) n ≡ Some x
get_front [] ys n x e = cc
get_front (y ∷ xs) ys zero x e = e
get_front (y ∷ xs) ys (suc n) x e = get_front xs ys n x e

get_behind : {X : Type 0} (xs ys : List X) (n : ℕ) → slice_get (xs ++ ys) (length xs + n) ≡ slice_get ys n
get_behind [] ys n = let e : 0 + n ≡ n = omega arith in ap (slice_get ys) e
get_behind (x ∷ xs) ys n = let e : suc (length xs) + n ≡ suc (length xs + n) = omega arith in ap (slice_get (x ∷ (xs ++ ys))) e ∙ get_behind xs ys n

get_either : {X : Type 0} (xs ys : List X) (n : ℕ) (x : X) → slice_get (xs ++ ys) n ≡ Some x → (slice_get xs n ≡ Some x) ⊎ ((j : ℕ) × (slice_get ys j ≡ Some x))
get_either [] ys n x e = inr (n, e)
get_either (y ∷ xs) ys zero x e = inl e
get_either (y ∷ xs) ys (suc n) x e = get_either xs ys n x e

get_map : {X Y : Type 0} (f : X → Y) (xs : List X) (n : ℕ) (x : X) → slice_get xs n ≡ Some x → slice_get (map f xs) n ≡ Some (f x)
get_map f [] n x e = cc
get_map f (y ∷ xs) zero x e = let s : y ≡ x = cc in ap (λ z. Some (f z)) s
get_map f (y ∷ xs) (suc n) x e = get_map f xs n x e

map_back : {X Y : Type 0} (f : X → Y) (xs : List X) (n : ℕ) (y : Y) → slice_get (map f xs) n ≡ Some y → (x : X) × (slice_get xs n ≡ Some x) × (f x ≡ y)
map_back f [] n y e = cc
map_back f (x ∷ xs) zero y e = let s : f x ≡ y = cc in (x, refl, s)
map_back f (x ∷ xs) (suc n) y e = map_back f xs n y e

get_within : {X : Type 0} (xs : List X) (n : ℕ) (x : X) → slice_get xs n ≡ Some x → (n < length xs) × (get_or xs n x ≡ x)
get_within [] n x e = cc
get_within (y ∷ xs) zero x e = let s : y ≡ x = cc in (omega arith, s)
get_within (y ∷ xs) (suc n) x e = let r = get_within xs n x e in (omega (arith, r.0), r.1)

get_there : {X : Type 0} (xs : List X) (n : ℕ) (x : X) → n < length xs → get_or xs n x ≡ x → slice_get xs n ≡ Some x
get_there [] n x l e = absurd (omega (arith, l))
get_there (y ∷ xs) zero x l e = ap Some e
get_there (y ∷ xs) (suc n) x l e = get_there xs n x (omega (arith, l)) e

-- A choice is of a rule, with one of its patterns.

choice_is : (m k : ℕ) (rs : List TermRule) (n : ℕ) (c : Choice) → slice_get (choices_from m k rs) n ≡ Some c
    → (i : ℕ) × (r : TermRule) × (j : ℕ) × (slice_get rs i ≡ Some r) × (slice_get (patterns_of m r) j ≡ Some c.pattern) × (c.number ≡ k + i)
choice_is m k [] n c e = cc
choice_is m k (r ∷ rs) n c e = go (get_either (choices_of m k r) (choices_from m (suc k) rs) n c e) (λ j f. choice_is m (suc k) rs j c f)
  where
    go : (slice_get (choices_of m k r) n ≡ Some c) ⊎ ((j : ℕ) × (slice_get (choices_from m (suc k) rs) j ≡ Some c))
        → ((l : ℕ) → slice_get (choices_from m (suc k) rs) l ≡ Some c → (i : ℕ) × (r' : TermRule) × (j : ℕ) × (slice_get rs i ≡ Some r') × (slice_get (patterns_of m r') j ≡ Some c.pattern) × (c.number ≡ suc k + i))
        → (i : ℕ) × (r' : TermRule) × (j : ℕ) × (slice_get (r ∷ rs) i ≡ Some r') × (slice_get (patterns_of m r') j ≡ Some c.pattern) × (c.number ≡ k + i)
    go (inl here) later' =
        let back = map_back (λ (p : List AbsNode). record { number = k; pattern = p }) (patterns_of m r) n c here in
        let z : k ≡ k + 0 = omega arith in
        (0, r, n, refl, back.1 ∙ ap (λ (d : Choice). Some d.pattern) back.2, sym (ap (λ (d : Choice). d.number) back.2) ∙ z)
    go (inr later) later' =
        let rest = later' later.0 later.1 in
        let z : suc k + rest.0 ≡ k + suc rest.0 = omega arith in
        (suc rest.0, rest.1, rest.2, rest.3, rest.4, rest.5 ∙ z)

-- Each rule with each of its patterns is a choice.

choice_there : (m k : ℕ) (rs : List TermRule) (i : ℕ) (r : TermRule) (j : ℕ) (p : List AbsNode) → slice_get rs i ≡ Some r → slice_get (patterns_of m r) j ≡ Some p
    → (n : ℕ) × (slice_get (choices_from m k rs) n ≡ Some (record { number = k + i; pattern = p }))
choice_there m k [] i r j p e f = cc
choice_there m k (s ∷ rs) zero r j p e f =
    let same : s ≡ r = cc in
    let z : k ≡ k + 0 = omega arith in (
      j,
      get_front (choices_of m k s) (choices_from m (suc k) rs) j (record { number = k; pattern = p })
          (get_map (λ (p : List AbsNode). record { number = k; pattern = p }) (patterns_of m s) j p (subst (λ (t : TermRule). slice_get (patterns_of m t) j ≡ Some p) (sym same) f))
          ∙ ap (λ n. Some (record { number = n; pattern = p })) z,
    )
choice_there m k (s ∷ rs) (suc i) r j p e f =
    let rest = choice_there m (suc k) rs i r j p e f in
    let z : suc k + i ≡ k + suc i = omega arith in
    (length (choices_of m k s) + rest.0, get_behind (choices_of m k s) (choices_from m (suc k) rs) rest.0 ∙ rest.1 ∙ ap (λ n. Some (record { number = n; pattern = p })) z)

pub listed_choice : PatternsAreListed → (m : ℕ) (rs : List TermRule) (n : ℕ) (c : Choice) → slice_get (choices_from m 0 rs) n ≡ Some c → (r : TermRule) × (slice_get rs c.number ≡ Some r) × IsPattern m r c.pattern
listed_choice listed m rs n c e =
    let is = choice_is m 0 rs n c e in
    let z : 0 + is.0 ≡ is.0 = omega arith in
    let there = get_within (patterns_of m is.1) is.2 c.pattern is.4 in
    (is.1, ap (slice_get rs) (is.5 ∙ z) ∙ is.3, ((listed m is.1).0 c.pattern).1 (is.2, there.0, there.1))

pub choice_listed : PatternsAreListed → (m : ℕ) (rs : List TermRule) (k : ℕ) (r : TermRule) (p : List AbsNode) → slice_get rs k ≡ Some r → IsPattern m r p
    → (n : ℕ) × (slice_get (choices_from m 0 rs) n ≡ Some (record { number = k; pattern = p }))
choice_listed listed m rs k r p e is =
    let at : Contains (patterns_of m r) p = ((listed m r).0 p).0 is in
    let z : 0 + k ≡ k = omega arith in
    let n = choice_there m 0 rs k r at.0 p e (get_there (patterns_of m r) at.0 p at.1 at.2) in
    (n.0, n.1 ∙ ap (λ i. Some (record { number = i; pattern = p })) z)

-- One rule more, as code goes over them.

drop_none : {X : Type 0} (xs : List X) (i : ℕ) → length xs ≤ i → drop i xs ≡ []
drop_none [] zero h = refl
drop_none [] (suc i) h = refl
drop_none (x ∷ xs) zero h = absurd (omega (arith, h))
drop_none (x ∷ xs) (suc i) h = drop_none xs i (omega (arith, h))

append_assoc : {X : Type 0} (xs ys zs : List X) → (xs ++ ys) ++ zs ≡ xs ++ (ys ++ zs)
append_assoc [] ys zs = refl
append_assoc (x ∷ xs) ys zs = ap (λ r. x ∷ r) (append_assoc xs ys zs)

append_none : {X : Type 0} (xs : List X) → xs ++ [] ≡ xs
append_none [] = refl
append_none (x ∷ xs) = ap (λ r. x ∷ r) (append_none xs)

pub rules_more : (m : ℕ) (rs : List TermRule) (i : ℕ) (out out' whole : List Choice) → i < length rs
    → ((r : TermRule) → slice_get rs i ≡ Some r → out' ≡ out ++ choices_of m i r) → out ++ choices_from m i (drop i rs) ≡ whole → out' ++ choices_from m (i + 1) (drop (i + 1) rs) ≡ whole
rules_more m [] i out out' whole inside added had = absurd (omega (arith, inside))
rules_more m (d ∷ rs) i out out' whole inside added had =
    let all : List TermRule = d ∷ rs in
    let r : TermRule = get_or all i d in
    let there : slice_get all i ≡ Some r = slice_get-get_or all i d inside in
    let s : suc i ≡ i + 1 = omega arith in
    ap (λ o. o ++ choices_from m (i + 1) (drop (i + 1) all)) (added r there)
    ∙ append_assoc out (choices_of m i r) (choices_from m (i + 1) (drop (i + 1) all))
    ∙ ap (λ k. out ++ (choices_of m i r ++ choices_from m k (drop (i + 1) all))) (sym s)
    ∙ ap (λ (l : List TermRule). out ++ choices_from m i l) (sym (drop_more all i d inside)) ∙ had

pub rules_done : (m : ℕ) (rs : List TermRule) (i : ℕ) (out whole : List Choice) → length rs ≤ i → out ++ choices_from m i (drop i rs) ≡ whole → out ≡ whole
rules_done m rs i out whole past had = sym (append_none out) ∙ ap (λ (l : List TermRule). out ++ choices_from m i l) (sym (drop_none rs i past)) ∙ had

pub rules_all : (m : ℕ) (rs : List TermRule) (out : List Choice) → out ≡ [] → out ++ choices_from m 0 (drop 0 rs) ≡ choices_from m 0 rs
rules_all m rs out e = ap (λ o. o ++ choices_from m 0 rs) e

-- One pattern more.

pub choice_more : (k : ℕ) (ps : List (List AbsNode)) (i : ℕ) (d p q : List AbsNode) (old out out' : List Choice) → i < length ps → p ≡ get_or ps i d → q ≡ p
    → out ≡ old ++ choices_with k (take i ps) → out' ≡ out ++ record { number = k; pattern = q } ∷ [] → out' ≡ old ++ choices_with k (take (i + 1) ps)
choice_more k ps i d p q old out out' inside is same had pushed =
    pushed ∙ ap (λ (o : List Choice). o ++ record { number = k; pattern = q } ∷ []) had ∙ append_assoc old (choices_with k (take i ps)) (record { number = k; pattern = q } ∷ [])
    ∙ ap (λ (n : List AbsNode). old ++ (choices_with k (take i ps) ++ record { number = k; pattern = n } ∷ [])) (same ∙ is)
    ∙ ap (λ l. old ++ l) (sym (ap (choices_with k) (take_more ps i d inside) ∙ map-append (λ (p : List AbsNode). record { number = k; pattern = p }) (take i ps) (get_or ps i d ∷ [])))

pub choice_none : (k : ℕ) (ps : List (List AbsNode)) (old : List Choice) → old ≡ old ++ choices_with k (take 0 ps)
choice_none k ps old = sym (append_none old)

pub choice_all : (k : ℕ) (ps : List (List AbsNode)) (i : ℕ) (old out : List Choice) → length ps ≤ i → out ≡ old ++ choices_with k (take i ps) → out ≡ old ++ choices_with k ps
choice_all k ps i old out past had = had ∙ ap (λ l. old ++ choices_with k l) (take_all i ps past)

-- A pattern of a machine that was made has at most three nodes.

pub short_choices : ChoicesAreListed → (m : ℕ) (rs : List TermRule) → All (λ (r : TermRule). node_parameters r ≤ 3) rs → All (λ (c : Choice). length c.pattern ≤ 3) (choices_from m 0 rs)
short_choices listed m rs few n d inside =
    let c : Choice = get_or (choices_from m 0 rs) n d in
    let is = (listed m rs).0 n c (slice_get-get_or (choices_from m 0 rs) n d inside) in
    let there = get_within rs c.number is.0 is.1 in
    let three : node_parameters is.0 ≤ 3 = subst (λ (r : TermRule). node_parameters r ≤ 3) there.1 (few c.number is.0 there.0) in
    let count : length c.pattern ≡ node_parameters is.0 = is.2.count in
    omega (arith, count, three)

-- The most fired nodes.

pub fired_within : (cs : List Choice) (n : ℕ) (c : Choice) → slice_get cs n ≡ Some c → fired_of c.pattern ≤ most_fired cs
fired_within [] n c e = cc
fired_within (d ∷ cs) zero c e = let same : d ≡ c = cc in let f : fired_of d.pattern ≡ fired_of c.pattern = ap (λ (z : Choice). fired_of z.pattern) same in omega (arith, f)
fired_within (d ∷ cs) (suc n) c e = let l = fired_within cs n c e in omega (arith, l)

-- What passes at a position is the choice there.

pub passes_there : (f : Choice → Bool) (cs : List Choice) (n : ℕ) (c : Choice) → slice_get cs n ≡ Some c → passes_at f cs n ≡ f c
passes_there f [] n c e = cc
passes_there f (d ∷ cs) zero c e = let same : d ≡ c = cc in ap f same
passes_there f (d ∷ cs) (suc n) c e = passes_there f cs n c e

pub passes_here : (f : Choice → Bool) (cs : List Choice) (n : ℕ) → passes_at f cs n ≡ true → (c : Choice) × (slice_get cs n ≡ Some c) × (f c ≡ true)
passes_here f [] n h = cc
passes_here f (d ∷ cs) zero h = (d, refl, h)
passes_here f (d ∷ cs) (suc n) h = passes_here f cs n h

pub ruleset choosing = (rules_all, rules_done, choice_none, choice_all)
