-- Renamed values, and what is asked of all nodes.
use Rattle.std.proofs.Common.{◌≡◌, ℕ, zero, suc, ◌+◌, ◌≤◌, ◌<◌, Bool, true, false, not, ◌&&◌, ◌||◌, List, [], ◌∷◌, ◌++◌, map, None, Some, ◌⊎◌, inl, inr, refl, sym, ap, ◌∙◌, subst, arith}
use Rattle.std.specs.Prelude.{nat_eq, nat_le, if◌then◌else◌, option_map, ℤ, ◌-ℤ◌}
use Rattle.std.proofs.lemmas.Bool.{and_parts, and_from, eqb-true, eq-eqb, le-leb, leb-true}
use Rattle.term_core.specs.declared.value.Value.{Value}
use Rattle.term_core.specs.declared.value.Value.TheVariants as value
use Rattle.term_core.specs.Nodes.{is_node, nodes, nodes_from}
use Rattle.term_core.specs.Values.{truth, number, same_value}
use Rattle.murphi_ast.specs.declared.token.Span.{Span}
use Rattle.murphi_typed.specs.declared.types.Simple.{Simple}
use Rattle.murphi_typed.specs.declared.types.Simple.TheVariants as simple
use Rattle.murphi_typed.specs.Prefix.{is_over_nodes}
use Rattle.murphi_typed.specs.Values.{is_value, may_hold, numbers_from, numbers_within, values, cleared_value}
use Rattle.murphi_typed.specs.Store.{beyond}
use Rattle.murphi_typed.specs.Outcome.{Outcome, Got, Fault, given}
use Rattle.murphi_typed.specs.Expressions.{over_all}
use Rattle.typed_laws.specs.Renamings.{IsRenaming, renamed, Alike}

pub false-true : {A : Type 0} → false ≡ true → A
false-true e = cc

pub got_same : {A : Type 0} {a b : A} → Got a ≡ Got b → a ≡ b
got_same e = cc

pub fault_got : {A B : Type 0} {at : Span} {a : A} → Fault at ≡ Got a → B
fault_got e = cc

pub both : {A B C : Type 0} {a a' : A} {b b' : B} (f : A → B → C) → a ≡ a' → b ≡ b' → f a b ≡ f a' b'
both {a = a} {a' = a'} {b = b} {b' = b'} f e g = ap (λ x. f x b) e ∙ ap (f a') g

pub truth_same : (to : ℕ → ℕ) (v : Value) → truth (renamed to v) ≡ truth v
truth_same to value.Undefined = refl
truth_same to (value.Truth b) = refl
truth_same to (value.Number z) = refl
truth_same to (value.Member kind index) = refl
truth_same to (value.Node n) = refl

pub number_same : (to : ℕ → ℕ) (v : Value) → number (renamed to v) ≡ number v
number_same to value.Undefined = refl
number_same to (value.Truth b) = refl
number_same to (value.Number z) = refl
number_same to (value.Member kind index) = refl
number_same to (value.Node n) = refl

pub renamed_back : (to from : ℕ → ℕ) → ((n : ℕ) → from (to n) ≡ n) → (v : Value) → renamed from (renamed to v) ≡ v
renamed_back to from back value.Undefined = refl
renamed_back to from back (value.Truth b) = refl
renamed_back to from back (value.Number z) = refl
renamed_back to from back (value.Member kind index) = refl
renamed_back to from back (value.Node n) = ap value.Node (back n)

pub all_back : (to from : ℕ → ℕ) → ((n : ℕ) → from (to n) ≡ n) → (vs : List Value) → map (renamed from) (map (renamed to) vs) ≡ vs
all_back to from back [] = refl
all_back to from back (v ∷ vs) = both (λ y ys. y ∷ ys) (renamed_back to from back v) (all_back to from back vs)

pub map_joined : {A B : Type 0} (f : A → B) (xs ys : List A) → map f (xs ++ ys) ≡ map f xs ++ map f ys
map_joined f [] ys = refl
map_joined f (x ∷ xs) ys = ap (λ zs. f x ∷ zs) (map_joined f xs ys)

same_bools : (a b : Bool) → (a ≡ true → b ≡ true) → (b ≡ true → a ≡ true) → a ≡ b
same_bools true b forth back = sym (forth refl)
same_bools false true forth back = back refl
same_bools false false forth back = refl

nodes_same : (to from : ℕ → ℕ) → ((n : ℕ) → from (to n) ≡ n) → (n m : ℕ) → nat_eq (to n) (to m) ≡ nat_eq n m
nodes_same to from back n m =
    same_bools (nat_eq (to n) (to m)) (nat_eq n m)
    (λ e. eq-eqb n m (sym (back n) ∙ ap from (eqb-true (to n) (to m) e) ∙ back m))
    (λ e. eq-eqb (to n) (to m) (ap to (eqb-true n m e)))

pub values_same : (to from : ℕ → ℕ) → ((n : ℕ) → from (to n) ≡ n) → (v w : Value) → same_value (renamed to v) (renamed to w) ≡ same_value v w
values_same to from back value.Undefined value.Undefined = refl
values_same to from back value.Undefined (value.Truth b) = refl
values_same to from back value.Undefined (value.Number z) = refl
values_same to from back value.Undefined (value.Member k i) = refl
values_same to from back value.Undefined (value.Node m) = refl
values_same to from back (value.Truth c) value.Undefined = refl
values_same to from back (value.Truth c) (value.Truth b) = refl
values_same to from back (value.Truth c) (value.Number z) = refl
values_same to from back (value.Truth c) (value.Member k i) = refl
values_same to from back (value.Truth c) (value.Node m) = refl
values_same to from back (value.Number y) value.Undefined = refl
values_same to from back (value.Number y) (value.Truth b) = refl
values_same to from back (value.Number y) (value.Number z) = refl
values_same to from back (value.Number y) (value.Member k i) = refl
values_same to from back (value.Number y) (value.Node m) = refl
values_same to from back (value.Member j h) value.Undefined = refl
values_same to from back (value.Member j h) (value.Truth b) = refl
values_same to from back (value.Member j h) (value.Number z) = refl
values_same to from back (value.Member j h) (value.Member k i) = refl
values_same to from back (value.Member j h) (value.Node m) = refl
values_same to from back (value.Node n) value.Undefined = refl
values_same to from back (value.Node n) (value.Truth b) = refl
values_same to from back (value.Node n) (value.Number z) = refl
values_same to from back (value.Node n) (value.Member k i) = refl
values_same to from back (value.Node n) (value.Node m) = nodes_same to from back n m

-- what follows a front part of indices
pub beyond_same : (to from : ℕ → ℕ) → ((n : ℕ) → from (to n) ≡ n) → ((n : ℕ) → to (from n) ≡ n) → (xs ys : List Value) → beyond same_value (map (renamed to) xs) ys ≡ option_map (map (renamed to)) (beyond same_value xs (map (renamed from) ys))
beyond_same to from back forth [] ys = ap Some (sym (all_back from to forth ys))
beyond_same to from back forth (x ∷ xs) [] = refl
beyond_same to from back forth (x ∷ xs) (y ∷ ys) =
    go (same_value (renamed to x) y) (same_value x (renamed from y))
    (ap (same_value (renamed to x)) (sym (renamed_back from to forth y)) ∙ values_same to from back x (renamed from y))
    (beyond_same to from back forth xs ys)
  where
    go : (a b : Bool) → a ≡ b → beyond same_value (map (renamed to) xs) ys ≡ option_map (map (renamed to)) (beyond same_value xs (map (renamed from) ys)) → (if a then beyond same_value (map (renamed to) xs) ys else None) ≡ option_map (map (renamed to)) (if b then beyond same_value xs (map (renamed from) ys) else None)
    go true true e more = more
    go false false e more = refl
    go true false e more = cc
    go false true e more = cc

pub is_value_same : (N : ℕ) (to from : ℕ → ℕ) → IsRenaming N to from → (type : Simple) (v : Value) → is_value N type (renamed to v) ≡ is_value N type v
is_value_same N to from is type value.Undefined = refl
is_value_same N to from is type (value.Truth b) = refl
is_value_same N to from is type (value.Number z) = refl
is_value_same N to from is type (value.Member kind index) = refl
is_value_same N to from is simple.Truth (value.Node n) = refl
is_value_same N to from is (simple.Range low high) (value.Node n) = refl
is_value_same N to from is (simple.Listed kind count) (value.Node n) = refl
is_value_same N to from is (simple.Scalarset kind count) (value.Node n) = refl
is_value_same N to from is simple.Node (value.Node n) = is.within n

pub may_hold_same : (N : ℕ) (to from : ℕ → ℕ) → IsRenaming N to from → (type : Simple) (v : Value) → may_hold N type (renamed to v) ≡ may_hold N type v
may_hold_same N to from is type value.Undefined = refl
may_hold_same N to from is type (value.Truth b) = refl
may_hold_same N to from is type (value.Number z) = refl
may_hold_same N to from is type (value.Member kind index) = refl
may_hold_same N to from is type (value.Node n) = is_value_same N to from is type (value.Node n)

pub cleared_same : (to : ℕ → ℕ) (type : Simple) → renamed to (cleared_value type) ≡ cleared_value type
cleared_same to simple.Truth = refl
cleared_same to (simple.Range low high) = refl
cleared_same to (simple.Listed kind count) = refl
cleared_same to (simple.Scalarset kind count) = refl
cleared_same to simple.Node = refl

-- Lists of values

abbrev pub In : Value → List Value → Type 0
In v [] = ⊥
In v (w ∷ ws) = (v ≡ w) ⊎ In v ws

-- values that keep their names
abbrev pub AreFixed : (ℕ → ℕ) → List Value → Type 0
AreFixed to [] = Unit {0}
AreFixed to (v ∷ vs) = (renamed to v ≡ v) × AreFixed to vs

numbers_fixed : (to : ℕ → ℕ) (zs : List ℤ) → AreFixed to (map value.Number zs)
numbers_fixed to [] = tt
numbers_fixed to (z ∷ zs) = (refl, numbers_fixed to zs)

members_fixed : (to : ℕ → ℕ) (kind : ℕ) (is : List ℕ) → AreFixed to (map (λ index. value.Member kind index) is)
members_fixed to kind [] = tt
members_fixed to kind (i ∷ is) = (refl, members_fixed to kind is)

pub values_fixed : (to : ℕ → ℕ) (N : ℕ) (over : Simple) → is_over_nodes over ≡ false → AreFixed to (values N over)
values_fixed to N simple.Truth e = (refl, (refl, tt))
values_fixed to N (simple.Range low high) e = numbers_fixed to (numbers_from low (numbers_within (high -ℤ low)))
values_fixed to N (simple.Listed kind count) e = members_fixed to kind (nodes_from 0 count)
values_fixed to N (simple.Scalarset kind count) e = members_fixed to kind (nodes_from 0 count)
values_fixed to N simple.Node e = false-true (sym e)

in_nodes : (n first count : ℕ) → first ≤ n → n < first + count → In (value.Node n) (map value.Node (nodes_from first count))
in_nodes n first zero low high = absurd (omega (arith, low, high))
in_nodes n first (suc count) low high = go (λ more less. in_nodes n (suc first) count more less) (nat_eq n first) refl
  where
    go : (suc first ≤ n → n < suc first + count → In (value.Node n) (map value.Node (nodes_from (suc first) count))) → (b : Bool) → nat_eq n first ≡ b → (value.Node n ≡ value.Node first) ⊎ In (value.Node n) (map value.Node (nodes_from (suc first) count))
    go again true e = inl (ap value.Node (eqb-true n first e))
    go again false e =
        let more : suc first ≤ n = grind (arith, e, low) in
        let less : n < suc first + count = omega (arith, high) in
        inr (again more less)

from_nodes : (v : Value) (first count : ℕ) → In v (map value.Node (nodes_from first count)) → (n : ℕ) × ((v ≡ value.Node n) × ((first ≤ n) × (n < first + count)))
from_nodes v first zero i = absurd i
from_nodes v first (suc count) (inl e) =
    let low : first ≤ first = omega arith in
    let high : first < first + suc count = omega arith in
    (first, (e, (low, high)))
from_nodes v first (suc count) (inr i) =
    let (n, rest) = from_nodes v (suc first) count i in
    let more : suc first ≤ n = rest.1.0 in
    let less : n < suc first + count = rest.1.1 in
    let low : first ≤ n = omega (arith, more) in
    let high : n < first + suc count = omega (arith, less) in
    (n, (rest.0, (low, high)))

-- a node's new name is one of the nodes
pub renamed_in : (N : ℕ) (to from : ℕ → ℕ) → IsRenaming N to from → (v : Value) → In v (map value.Node (nodes N)) → In (renamed to v) (map value.Node (nodes N))
renamed_in N to from is v i =
    let (n, rest) = from_nodes v 1 N i in
    let low : 1 ≤ n = rest.1.0 in
    let high : n < 1 + N = rest.1.1 in
    let upto : n ≤ N = omega (arith, high) in
    let here : is_node N n ≡ true = and_from (nat_le 1 n) (nat_le n N) (le-leb 1 n low) (le-leb n N upto) in
    let there : is_node N (to n) ≡ true = is.within n ∙ here in
    let (a, b) = and_parts (nat_le 1 (to n)) (nat_le (to n) N) there in
    let least : 1 ≤ to n = leb-true 1 (to n) a in
    let most : to n ≤ N = leb-true (to n) N b in
    let below : to n < 1 + N = omega (arith, most) in
    subst (λ z. In (renamed to z) (map value.Node (nodes N))) (sym rest.0) (in_nodes (to n) 1 N least below)

-- What is asked of each

each_got : (all : Bool) (f : Value → Outcome Value) (vs : List Value) (b : Bool) → over_all all f vs ≡ Got b → (v : Value) → In v vs → (w : Value) × (f v ≡ Got w)
each_got all f [] b e v i = absurd i
each_got all f (u ∷ us) b e v i = go (λ c more j. each_got all f us c more v j) (f u) refl (over_all all f us) refl e i
  where
    go : ((c : Bool) → over_all all f us ≡ Got c → In v us → (w : Value) × (f v ≡ Got w)) → (o : Outcome Value) → f u ≡ o → (p : Outcome Bool) → over_all all f us ≡ p → given o (λ first. given p (λ rest. Got (if all then truth first && rest else truth first || rest))) ≡ Got b → (v ≡ u) ⊎ In v us → (w : Value) × (f v ≡ Got w)
    go again (Fault at) was p more e i = fault_got e
    go again (Got w) was (Fault at) more e i = fault_got e
    go again (Got w) was (Got c) more e (inl same) = (w, ap f same ∙ was)
    go again (Got w) was (Got c) more e (inr i) = again c more i

all_got : (all : Bool) (f : Value → Outcome Value) (vs : List Value) → ((v : Value) → In v vs → (w : Value) × (f v ≡ Got w)) → (b : Bool) × (over_all all f vs ≡ Got b)
all_got all f [] each = (all, refl)
all_got all f (u ∷ us) each =
    let (w, e) = each u (inl refl) in
    let (c, g) = all_got all f us (λ v i. each v (inr i)) in (
      (if all then truth w && c else truth w || c),
      both (λ o p. given o (λ first. given p (λ rest. Got (if all then truth first && rest else truth first || rest)))) e g,
    )

settle : (all a b : Bool) → a ≡ not all → (if all then a && b else a || b) ≡ not all
settle true false b e = refl
settle true true b e = cc
settle false true b e = refl
settle false false b e = cc

settle_on : (all a b : Bool) → b ≡ not all → (if all then a && b else a || b) ≡ not all
settle_on true true b e = e
settle_on true false b e = refl
settle_on false true b e = refl
settle_on false false b e = e

unsettled : (all a b : Bool) → (if all then a && b else a || b) ≡ not all → (a ≡ not all) ⊎ (b ≡ not all)
unsettled true true b e = inr e
unsettled true false b e = inl refl
unsettled false true b e = inl refl
unsettled false false b e = inr e

-- one that settles it settles it
settled : (all : Bool) (f : Value → Outcome Value) (vs : List Value) (b : Bool) → over_all all f vs ≡ Got b → (v w : Value) → In v vs → f v ≡ Got w → truth w ≡ not all → b ≡ not all
settled all f [] b e v w i g t = absurd i
settled all f (u ∷ us) b e v w i g t = go (λ c more j. settled all f us c more v w j g t) (f u) refl (over_all all f us) refl e i
  where
    go : ((c : Bool) → over_all all f us ≡ Got c → In v us → c ≡ not all) → (o : Outcome Value) → f u ≡ o → (p : Outcome Bool) → over_all all f us ≡ p → given o (λ first. given p (λ rest. Got (if all then truth first && rest else truth first || rest))) ≡ Got b → (v ≡ u) ⊎ In v us → b ≡ not all
    go again (Fault at) was p more e i = fault_got e
    go again (Got x) was (Fault at) more e i = fault_got e
    go again (Got x) was (Got c) more e (inl same) =
        let y : x ≡ w = got_same (sym was ∙ ap f (sym same) ∙ g) in
        sym (got_same e) ∙ settle all (truth x) c (ap truth y ∙ t)
    go again (Got x) was (Got c) more e (inr i) = sym (got_same e) ∙ settle_on all (truth x) c (again c more i)

-- what is settled some one settles
settler : (all : Bool) (f : Value → Outcome Value) (vs : List Value) (b : Bool) → over_all all f vs ≡ Got b → b ≡ not all → (v : Value) × ((w : Value) × (In v vs × ((f v ≡ Got w) × (truth w ≡ not all))))
settler all f [] b e t = none all (got_same e ∙ t)
  where
    none : {A : Type 0} (c : Bool) → c ≡ not c → A
    none true e = cc
    none false e = cc
settler all f (u ∷ us) b e t = go (λ c more y. settler all f us c more y) (f u) refl (over_all all f us) refl e
  where
    pick : ((c : Bool) → over_all all f us ≡ Got c → c ≡ not all → (v : Value) × ((w : Value) × (In v us × ((f v ≡ Got w) × (truth w ≡ not all))))) → (x : Value) (c : Bool) → f u ≡ Got x → over_all all f us ≡ Got c → (truth x ≡ not all) ⊎ (c ≡ not all) → (v : Value) × ((w : Value) × (((v ≡ u) ⊎ In v us) × ((f v ≡ Got w) × (truth w ≡ not all))))
    pick again x c was more (inl y) = (u, (x, (inl refl, (was, y))))
    pick again x c was more (inr y) = let (v, (w, (i, rest))) = again c more y in (v, (w, (inr i, rest)))

    go : ((c : Bool) → over_all all f us ≡ Got c → c ≡ not all → (v : Value) × ((w : Value) × (In v us × ((f v ≡ Got w) × (truth w ≡ not all))))) → (o : Outcome Value) → f u ≡ o → (p : Outcome Bool) → over_all all f us ≡ p → given o (λ first. given p (λ rest. Got (if all then truth first && rest else truth first || rest))) ≡ Got b → (v : Value) × ((w : Value) × (((v ≡ u) ⊎ In v us) × ((f v ≡ Got w) × (truth w ≡ not all))))
    go again (Fault at) was p more e = fault_got e
    go again (Got x) was (Fault at) more e = fault_got e
    go again (Got x) was (Got c) more e = pick again x c was more (unsettled all (truth x) c (got_same e ∙ t))

-- two questions that go together at each of the two lists
abbrev pub Follows : (Value → Outcome Value) → (Value → Outcome Value) → List Value → List Value → Type 0
Follows f g vs ws =
    (v : Value) → In v vs → (u : Value) × (In u ws × Alike (λ x y. truth y ≡ truth x) (f v) (g u))

alike_got : (o p : Outcome Value) (w : Value) → Alike (λ x y. truth y ≡ truth x) o p → p ≡ Got w → (x : Value) × ((o ≡ Got x) × (truth w ≡ truth x))
alike_got (Got x) (Got y) w a e = (x, (refl, ap truth (sym (got_same e)) ∙ a))
alike_got (Got x) (Fault at) w a e = absurd a
alike_got (Fault at) (Got y) w a e = absurd a
alike_got (Fault at) (Fault other) w a e = fault_got e

got_alike : (o p : Outcome Value) (x : Value) → Alike (λ x y. truth y ≡ truth x) o p → o ≡ Got x → (y : Value) × ((p ≡ Got y) × (truth y ≡ truth x))
got_alike (Got x) (Got y) w a e = (y, (refl, a ∙ ap truth (got_same e)))
got_alike (Got x) (Fault at) w a e = absurd a
got_alike (Fault at) (Got y) w a e = absurd a
got_alike (Fault at) (Fault other) w a e = fault_got e

turned : (f g : Value → Outcome Value) (ws : List Value) (v : Value) → (u : Value) × (In u ws × Alike (λ x y. truth y ≡ truth x) (f u) (g v)) → (u : Value) × (In u ws × Alike (λ x y. truth y ≡ truth x) (g v) (f u))
turned f g ws v (u, (i, a)) = (u, (i, flip (f u) (g v) a))
  where
    flip : (o p : Outcome Value) → Alike (λ x y. truth y ≡ truth x) o p → Alike (λ x y. truth y ≡ truth x) p o
    flip (Got x) (Got y) a = sym a
    flip (Got x) (Fault at) a = absurd a
    flip (Fault at) (Got y) a = absurd a
    flip (Fault at) (Fault other) a = tt

-- a question over all is answered alike where each instance has one that goes with it, both ways
pub over_all_alike : (all : Bool) (f g : Value → Outcome Value) (vs ws : List Value) → Follows f g vs ws → ((w : Value) → In w ws → (v : Value) × (In v vs × Alike (λ x y. truth y ≡ truth x) (f v) (g w))) → Alike (λ b c. c ≡ b) (over_all all f vs) (over_all all g ws)
over_all_alike all f g vs ws forth back = go (over_all all f vs) refl (over_all all g ws) refl
  where
    settles : (b c : Bool) → over_all all f vs ≡ Got b → over_all all g ws ≡ Got c → b ≡ not all → c ≡ not all
    settles b c e h t =
        let (v, (w, (i, (is, tw)))) = settler all f vs b e t in
        let (u, (j, a)) = forth v i in
        let (y, (got, ty)) = got_alike (f v) (g u) w a is in
        settled all g ws c h u y j got (ty ∙ tw)

    settles_back : (b c : Bool) → over_all all f vs ≡ Got b → over_all all g ws ≡ Got c → c ≡ not all → b ≡ not all
    settles_back b c e h t =
        let (v, (w, (i, (is, tw)))) = settler all g ws c h t in
        let (u, (j, a)) = back v i in
        let (y, (got, ty)) = alike_got (f u) (g v) w a is in
        settled all f vs b e u y j got (sym ty ∙ tw)

    decide : (a b c : Bool) → (b ≡ not a → c ≡ not a) → (c ≡ not a → b ≡ not a) → c ≡ b
    decide true true true x y = refl
    decide true true false x y = sym (y refl)
    decide true false c x y = x refl
    decide false false false x y = refl
    decide false false true x y = sym (y refl)
    decide false true c x y = x refl

    go : (o : Outcome Bool) → over_all all f vs ≡ o → (p : Outcome Bool) → over_all all g ws ≡ p → Alike (λ b c. c ≡ b) o p
    go (Got b) e (Got c) h = decide all b c (settles b c e h) (settles_back b c e h)
    go (Fault at) e (Fault other) h = tt
    go (Got b) e (Fault at) h =
        let (c, got) = all_got all g ws (λ w i. let (v, (j, a)) = back w i in let (x, is) = each_got all f vs b e v j in let (y, (got, ty)) = got_alike (f v) (g w) x a is in (y, got)) in
        fault_got (sym h ∙ got)
    go (Fault at) e (Got c) h =
        let (b, got) = all_got all f vs (λ v i. let (u, (j, a)) = forth v i in let (x, is) = each_got all g ws c h u j in let (y, (got, ty)) = alike_got (f v) (g u) x a is in (y, got)) in
        fault_got (sym e ∙ got)
