-- Values listed one after the other.
use Rattle.std.proofs.Common.{◌≡◌, ℕ, zero, suc, ◌+◌, ◌-◌, ◌<◌, ◌≤◌, List, [], ◌∷◌, ◌++◌, length, map, take, get_or, refl, sym, ap, ◌∙◌, append_assoc, append-nil, arith}
use Rattle.std.specs.Prelude.{ℤ, pos, negsuc, ◌+ℤ◌, ◌-ℤ◌, ◌≤ℤ◌, ◌<ℤ◌, unsigned_abs}
use Rattle.std.proofs.lemmas.List.{take_more, take_all}
use Rattle.term_core.specs.Nodes.{nodes_from}
use Rattle.other_abstract.specs.declared.node.AbsNode.{AbsNode}
use Rattle.other_abstract.specs.declared.node.AbsNode.TheVariants.{Other}
use Rattle.other_abstract.specs.declared.value.AbsValue.{AbsValue}
use Rattle.other_abstract.specs.declared.value.AbsValue.TheVariants.{Number, Member, Node}
use Rattle.other_abstract.specs.Tests.{count_of, ints_from}

-- one value more, and those that are left
one_more : (out out' rest more whole : List AbsValue) (v : AbsValue) → out' ≡ out ++ v ∷ [] → more ≡ v ∷ rest → out ++ more ≡ whole → out' ++ rest ≡ whole
one_more out out' rest more whole v is first all = ap (λ o. o ++ rest) is ∙ append_assoc out (v ∷ []) rest ∙ ap (λ m. out ++ m) (sym first) ∙ all

none_more : (out rest whole : List AbsValue) → rest ≡ [] → out ++ rest ≡ whole → out ≡ whole
none_more out rest whole none all = sym (append-nil out) ∙ ap (λ r. out ++ r) (sym none) ∙ all

ints_more : (low : ℤ) (k count : ℕ) → k < count → ints_from (low +ℤ pos k) (count - k) ≡ (low +ℤ pos k) ∷ ints_from (low +ℤ pos (k + 1)) (count - (k + 1))
ints_more low k count h =
    let e : count - k ≡ suc (count - (k + 1)) = omega (arith, h) in
    let f : low +ℤ pos k +ℤ pos 1 ≡ low +ℤ pos (k + 1) = grind arith in
    ap (ints_from (low +ℤ pos k)) e ∙ ap (λ z. (low +ℤ pos k) ∷ ints_from z (count - (k + 1))) f

pub numbers_first : (low : ℤ) (count : ℕ) (out : List AbsValue) → out ++ map Number (ints_from (low +ℤ pos 0) (count - 0)) ≡ out ++ map Number (ints_from low count)
numbers_first low count out =
    let e : low +ℤ pos 0 ≡ low = grind arith in
    let f : count - 0 ≡ count = omega arith in
    ap (λ z. out ++ map Number (ints_from z (count - 0))) e ∙ ap (λ n. out ++ map Number (ints_from low n)) f

pub numbers_more : (low n : ℤ) (k count : ℕ) (out out' whole : List AbsValue) → k < count → n ≡ low +ℤ pos k → out' ≡ out ++ Number n ∷ []
    → out ++ map Number (ints_from (low +ℤ pos k) (count - k)) ≡ whole → out' ++ map Number (ints_from (low +ℤ pos (k + 1)) (count - (k + 1))) ≡ whole
numbers_more low n k count out out' whole h at is all =
    one_more out out' (map Number (ints_from (low +ℤ pos (k + 1)) (count - (k + 1)))) (map Number (ints_from (low +ℤ pos k) (count - k))) whole (Number (low +ℤ pos k))
    (is ∙ ap (λ z. out ++ Number z ∷ []) at) (ap (map Number) (ints_more low k count h)) all

pub numbers_none : (low : ℤ) (k count : ℕ) (out whole : List AbsValue) → count ≤ k → out ++ map Number (ints_from (low +ℤ pos k) (count - k)) ≡ whole → out ≡ whole
numbers_none low k count out whole h all =
    let e : count - k ≡ 0 = omega (arith, h) in
    none_more out (map Number (ints_from (low +ℤ pos k) (count - k))) whole (ap (λ n. map Number (ints_from (low +ℤ pos k) n)) e) all

-- a range counted by how far its end is from its first number
pub count_made : (low high : ℤ) → low ≤ℤ high → low +ℤ pos (unsigned_abs (high -ℤ low) + 1) ≡ high +ℤ pos 1
count_made low high h = go (high -ℤ low) refl
  where
    go : (d : ℤ) → high -ℤ low ≡ d → low +ℤ pos (unsigned_abs d + 1) ≡ high +ℤ pos 1
    go (pos n) e = grind (arith, e)
    go (negsuc n) e = absurd (grind (arith, e, h))

count_is : (low high : ℤ) (count : ℕ) → low +ℤ pos count ≡ high +ℤ pos 1 → count_of (high -ℤ low +ℤ pos 1) ≡ count
count_is low high count h = go (high -ℤ low +ℤ pos 1) refl
  where
    go : (d : ℤ) → high -ℤ low +ℤ pos 1 ≡ d → count_of d ≡ count
    go (pos n) e = grind (arith, e, h)
    go (negsuc n) e = absurd (grind (arith, e, h))

none_counted : (low high : ℤ) → high <ℤ low → count_of (high -ℤ low +ℤ pos 1) ≡ 0
none_counted low high h = go (high -ℤ low +ℤ pos 1) refl
  where
    go : (d : ℤ) → high -ℤ low +ℤ pos 1 ≡ d → count_of d ≡ 0
    go (pos zero) e = refl
    go (pos (suc n)) e = absurd (grind (arith, e, h))
    go (negsuc n) e = refl

pub range_empty : (low high : ℤ) (out : List AbsValue) → high <ℤ low → out ≡ out ++ map Number (ints_from low (count_of (high -ℤ low +ℤ pos 1)))
range_empty low high out h = sym (append-nil out) ∙ ap (λ n. out ++ map Number (ints_from low n)) (sym (none_counted low high h))

pub range_whole : (low high : ℤ) (k count : ℕ) (out old : List AbsValue) → count ≤ k → low +ℤ pos count ≡ high +ℤ pos 1
    → out ++ map Number (ints_from (low +ℤ pos k) (count - k)) ≡ old ++ map Number (ints_from low count) → out ≡ old ++ map Number (ints_from low (count_of (high -ℤ low +ℤ pos 1)))
range_whole low high k count out old past e all = numbers_none low k count out (old ++ map Number (ints_from low count)) past all ∙ ap (λ n. old ++ map Number (ints_from low n)) (sym (count_is low high count e))

pub range_back : (low low' high high' : ℤ) (out old : List AbsValue) → low' ≡ low → high' ≡ high → out ≡ old ++ map Number (ints_from low' (count_of (high' -ℤ low' +ℤ pos 1))) → out ≡ old ++ map Number (ints_from low (count_of (high -ℤ low +ℤ pos 1)))
range_back low low' high high' out old e f is = is ∙ ap (λ z. old ++ map Number (ints_from z (count_of (high' -ℤ z +ℤ pos 1)))) e ∙ ap (λ z. old ++ map Number (ints_from low (count_of (z -ℤ low +ℤ pos 1)))) f

-- the numbers so counted are in the range
pub within_range : (low high : ℤ) (k count : ℕ) → k < count → low +ℤ pos count ≡ high +ℤ pos 1 → (low +ℤ pos k) ≤ℤ high
within_range low high k count h e = grind (arith, h, e)

-- members of a kind, in order
pub members_more : (kind index : ℕ) (k count : ℕ) (out out' whole : List AbsValue) → k < count → index ≡ k → out' ≡ out ++ Member kind index ∷ []
    → out ++ map (λ i. Member kind i) (nodes_from k (count - k)) ≡ whole → out' ++ map (λ i. Member kind i) (nodes_from (k + 1) (count - (k + 1))) ≡ whole
members_more kind index k count out out' whole h at is all =
    let e : count - k ≡ suc (count - (k + 1)) = omega (arith, h) in
    let f : suc k ≡ k + 1 = omega arith in
    one_more out out' (map (λ i. Member kind i) (nodes_from (k + 1) (count - (k + 1)))) (map (λ i. Member kind i) (nodes_from k (count - k))) whole (Member kind k)
    (is ∙ ap (λ i. out ++ Member kind i ∷ []) at)
    (ap (λ n. map (λ i. Member kind i) (nodes_from k n)) e ∙ ap (λ j. Member kind k ∷ map (λ i. Member kind i) (nodes_from j (count - (k + 1)))) f) all

pub members_none : (kind k count : ℕ) (out whole : List AbsValue) → count ≤ k → out ++ map (λ i. Member kind i) (nodes_from k (count - k)) ≡ whole → out ≡ whole
members_none kind k count out whole h all =
    let e : count - k ≡ 0 = omega (arith, h) in
    none_more out (map (λ i. Member kind i) (nodes_from k (count - k))) whole (ap (λ n. map (λ i. Member kind i) (nodes_from k n)) e) all

-- nodes of a window, in order, and Other
map_push : {X : Type 0} (f : X → AbsValue) (xs : List X) (x : X) → map f (xs ++ x ∷ []) ≡ map f xs ++ f x ∷ []
map_push f [] x = refl
map_push f (y ∷ ys) x = ap (λ r. f y ∷ r) (map_push f ys x)

pub nodes_none : (out : List AbsValue) → out ≡ out ++ []
nodes_none out = sym (append-nil out)

pub nodes_more : (ns : List AbsNode) (i : ℕ) (d : AbsNode) (old out out' : List AbsValue) → i < length ns → out' ≡ out ++ Node (get_or ns i d) ∷ [] → out ≡ old ++ map Node (take i ns)
    → out' ≡ old ++ map Node (take (i + 1) ns)
nodes_more ns i d old out out' inside is had =
    is ∙ ap (λ o. o ++ Node (get_or ns i d) ∷ []) had
    ∙ append_assoc old (map Node (take i ns)) (Node (get_or ns i d) ∷ [])
    ∙ ap (λ r. old ++ r) (sym (ap (map Node) (take_more ns i d inside) ∙ map_push Node (take i ns) (get_or ns i d)))

pub nodes_last : (ns : List AbsNode) (i : ℕ) (old out out' : List AbsValue) → length ns ≤ i → out' ≡ out ++ Node Other ∷ [] → out ≡ old ++ map Node (take i ns) → out' ≡ old ++ map Node (ns ++ Other ∷ [])
nodes_last ns i old out out' past is had =
    is ∙ ap (λ o. o ++ Node Other ∷ []) (had ∙ ap (λ xs. old ++ map Node xs) (take_all i ns past))
    ∙ append_assoc old (map Node ns) (Node Other ∷ [])
    ∙ ap (λ r. old ++ r) (sym (map_push Node ns Other))

pub ruleset listing = (numbers_first, count_made, range_empty, range_whole, within_range, members_none, nodes_none)
