-- Edges that tell what a start may leave.
use Rattle.std.proofs.Common.{◌≡◌, ℕ, zero, suc, ◌+◌, ◌<◌, ◌≤◌, Bool, true, false, cond, ◌&&◌, ◌||◌, List, [], ◌∷◌, ◌++◌, length, get_or, take, drop, Option, None, Some, refl, sym, ap, ◌∙◌, subst, arith}
use Rattle.std.specs.Prelude.{nat_eq}
use Rattle.std.specs.List.{list_all, list_any}
use Rattle.std.proofs.lemmas.List.{take_more, take_all, drop_more}
use Rattle.circuit_core.specs.declared.edge.Edge.{Edge}
use Rattle.circuit_core.specs.Network.{Network, IsEdge}
use Rattle.circuit_core.specs.Growth.{KeepsEdges}
use Rattle.term_core.specs.declared.term.Term.{Term}
use Rattle.term_core.specs.declared.machine.CellFamily.{CellFamily}
use Rattle.term_core.specs.declared.machine.Update.{Update}
use Rattle.term_core.specs.Firing.{update_for}
use Rattle.other_abstract.specs.declared.node.AbsNode.{AbsNode}
use Rattle.other_abstract.specs.declared.value.AbsValue.{AbsValue}
use Rattle.other_abstract.specs.declared.place.Place.{Place}
use Rattle.other_abstract.specs.Windows.{Window, same_value}
use Rattle.other_abstract.specs.May.{AbsCells, value_at}
use Rattle.other_abstract.specs.Tests.{may}
use Rattle.other_abstract.specs.Machines.{read_kept, settled, blank, blank_of}
use Rattle.other_abstract.specs.Stepping.{may_begin}
use Rattle.bit_encode.specs.declared.set.Possible.{Possible}
use Rattle.bit_encode.specs.MaySets.{Agrees, held}
use Rattle.bit_encode.specs.Coding.{HasCells}
use Rattle.bit_encode.specs.Terms.{TellsIn}
use Rattle.bit_encode.specs.Steps.{IsCellIn}
use Rattle.bit_starts.specs.Starts.{settles}
use Rattle.bit_starts.proofs.Growing.{keeps_all, keeps_self, agrees_before}

fun_ext : {A B : Type 0} {f g : A → B} → ((x : A) → f x ≡ g x) → f ≡ g
fun_ext h = λ i x. h x i

or_false : (a : Bool) → (a || false) ≡ a
or_false true = refl
or_false false = refl

or_assoc : (a b c : Bool) → ((a || b) || c) ≡ (a || (b || c))
or_assoc true b c = refl
or_assoc false b c = refl

and_true : (a : Bool) → (a && true) ≡ a
and_true true = refl
and_true false = refl

and_assoc : (a b c : Bool) → ((a && b) && c) ≡ (a && (b && c))
and_assoc true b c = refl
and_assoc false b c = refl

pub cells_after : (old new : Network) (cells : List (List Possible)) → KeepsEdges old new → HasCells old cells → HasCells new cells
cells_after old new cells k h n d l m e j = k.edges _ (h n d l m e j)

-- one of the first values
pub record AnySettles (old new : Network) (e : Edge) (K : Window) (f : ℕ) (to : List Possible) (xs : List AbsValue) : Type 0 where
  pub keeps : KeepsEdges old new
  pub edge : IsEdge new e
  pub value : (x : ℕ → Bool) (val : Edge → Bool) → Agrees new x val → val e ≡ list_any (settles val K f to) xs

any_push : {X : Type 0} (f : X → Bool) (s : List X) (t : X) → list_any f (s ++ t ∷ []) ≡ (list_any f s || f t)
any_push f [] t = or_false (f t)
any_push f (o ∷ s) t = ap (λ b. f o || b) (any_push f s t) ∙ sym (or_assoc (f o) (list_any f s) (f t))

all_push : {X : Type 0} (f : X → Bool) (s : List X) (t : X) → list_all f (s ++ t ∷ []) ≡ (list_all f s && f t)
all_push f [] t = and_true (f t)
all_push f (o ∷ s) t = ap (λ b. f o && b) (all_push f s t) ∙ sym (and_assoc (f o) (list_all f s) (f t))

pub settles_none : (c : Network) (e : Edge) (K : Window) (f : ℕ) (to : List Possible) → IsEdge c e → ((x : ℕ → Bool) (val : Edge → Bool) → Agrees c x val → val e ≡ false) → AnySettles c c e K f to []
settles_none c e K f to h g = record { keeps = keeps_self c; edge = h; value = g }

pub settles_more : (old mid new : Network) (e g : Edge) (K : Window) (f : ℕ) (to : List Possible) (xs : List AbsValue) (i : ℕ) (d : AbsValue) → i < length xs → AnySettles old mid e K f to (take i xs) → KeepsEdges mid new → IsEdge new g
    → ((y : ℕ → Bool) (val : Edge → Bool) → Agrees new y val → val g ≡ (val e || settles val K f to (get_or xs i d))) → AnySettles old new g K f to (take (i + 1) xs)
settles_more old mid new e g K f to xs i d inside had k edge value = record {
  keeps = keeps_all old mid new had.keeps k;
  edge = edge;
  value = λ y val a.
      value y val a ∙ ap (λ b. b || settles val K f to (get_or xs i d)) (had.value y val (agrees_before mid new y val k a))
      ∙ sym (ap (list_any (settles val K f to)) (take_more xs i d inside) ∙ any_push (settles val K f to) (take i xs) (get_or xs i d));
}

pub settles_all : (old new : Network) (e : Edge) (K : Window) (f : ℕ) (to : List Possible) (xs : List AbsValue) (i : ℕ) → length xs ≤ i → AnySettles old new e K f to (take i xs) → AnySettles old new e K f to xs
settles_all old new e K f to xs i past had = subst (AnySettles old new e K f to) (take_all i xs past) had

-- a cell that an update writes, and one that none does
pub given_tells : (mid new : Network) (kept : List (List Possible)) (K W : Window) (p at at2 : List AbsNode) (body : Term) (place : Place) (values values' : List AbsValue) (to to' : List Possible) (e : Edge)
    → at ≡ place.at → ((q : AbsValue → Bool) → list_any q values ≡ may W (blank W) (p ++ at) body q) → values' ≡ values
    → at2 ≡ place.at → IsCellIn mid kept K place.family at2 to → to' ≡ to → KeepsEdges mid new
    → ((x : ℕ → Bool) (val : Edge → Bool) → Agrees new x val → val e ≡ list_any (settles val K place.family to') values')
    → TellsIn new kept e (λ t. may_begin K W p (Some body) place (value_at K t place.family place.at))
unfolding IsCellIn TellsIn
given_tells mid new kept K W p at at2 body place values values' to to' e sa tests sv sb is st k h x val a t sh =
    h x val a
    ∙ ap (λ s. list_any (settles val K place.family s) values') st
    ∙ ap (list_any (settles val K place.family to)) sv
    ∙ ap (λ q. list_any q values) (fun_ext (λ v. is x val (agrees_before mid new x val k a) t sh (same_value (settled K place.family (read_kept v)))))
    ∙ ap (λ ns. list_any (λ v. same_value (settled K place.family (read_kept v)) (value_at K t place.family ns)) values) sb
    ∙ tests (λ v. same_value (settled K place.family (read_kept v)) (value_at K t place.family place.at))
    ∙ ap (λ ns. may W (blank W) (p ++ ns) body (λ v. same_value (settled K place.family (read_kept v)) (value_at K t place.family place.at))) sa

pub blank_tells : (mid new : Network) (kept : List (List Possible)) (K W : Window) (p at : List AbsNode) (place : Place) (fs : List CellFamily) (old : AbsValue) (to to' : List Possible) (e : Edge)
    → old ≡ blank_of fs place.family → fs ≡ W.families → at ≡ place.at → IsCellIn mid kept K place.family at to → to' ≡ to → KeepsEdges mid new
    → ((x : ℕ → Bool) (val : Edge → Bool) → Agrees new x val → val e ≡ held val (same_value old) to')
    → TellsIn new kept e (λ t. may_begin K W p None place (value_at K t place.family place.at))
unfolding IsCellIn TellsIn
blank_tells mid new kept K W p at place fs old to to' e so sf sa is st k h x val a t sh =
    h x val a ∙ ap (held val (same_value old)) st ∙ is x val (agrees_before mid new x val k a) t sh (same_value old)
    ∙ ap (λ ns. same_value old (value_at K t place.family ns)) sa
    ∙ ap (λ v. same_value v (value_at K t place.family place.at)) (so ∙ ap (λ gs. blank_of gs place.family) sf)

pub begins_as : (c : Network) (kept : List (List Possible)) (K W : Window) (p : List AbsNode) (o o' : Option Term) (place : Place) (e : Edge) → o ≡ o'
    → TellsIn c kept e (λ t. may_begin K W p o' place (value_at K t place.family place.at)) → TellsIn c kept e (λ t. may_begin K W p o place (value_at K t place.family place.at))
begins_as c kept K W p o o' place e is tells = subst (λ q. TellsIn c kept e (λ t. may_begin K W p q place (value_at K t place.family place.at))) (sym is) tells

-- the update of a family where it is found, past others, and past the last
pub update_here : (us : List Update) (i : ℕ) (d u : Update) (f : ℕ) → i < length us → u ≡ get_or us i d → u.family ≡ f → update_for (drop i us) f ≡ update_for us f → update_for us f ≡ Some u.body
update_here us i d u f inside is same before =
    let q : nat_eq u.family f ≡ true = grind (arith, same) in
    sym before ∙ ap (λ vs. update_for vs f) (drop_more us i d inside ∙ ap (λ z. z ∷ drop (i + 1) us) (sym is)) ∙ ap (λ b. cond b (Some u.body) (update_for (drop (i + 1) us) f)) q

pub update_skip : (us : List Update) (i : ℕ) (d u : Update) (f : ℕ) → i < length us → u ≡ get_or us i d → (u.family ≡ f → ⊥) → update_for (drop i us) f ≡ update_for us f → update_for (drop (i + 1) us) f ≡ update_for us f
update_skip us i d u f inside is other before =
    let q : nat_eq u.family f ≡ false = grind (arith, other) in
    sym (ap (λ vs. update_for vs f) (drop_more us i d inside ∙ ap (λ z. z ∷ drop (i + 1) us) (sym is)) ∙ ap (λ b. cond b (Some u.body) (update_for (drop (i + 1) us) f)) q) ∙ before

pub update_past : (us : List Update) (i f : ℕ) → length us ≤ i → update_for (drop i us) f ≡ update_for us f → update_for us f ≡ None
update_past us i f past before = sym before ∙ ap (λ vs. update_for vs f) (drop_past us i past)
  where
    drop_past : (us : List Update) (i : ℕ) → length us ≤ i → drop i us ≡ []
    drop_past [] zero h = refl
    drop_past [] (suc i) h = refl
    drop_past (v ∷ vs) zero h = absurd (omega (arith, h))
    drop_past (v ∷ vs) (suc i) h = drop_past vs i (omega (arith, h))

-- what the first cells say
pub record AllTell {X : Type 0} (old new : Network) (cells : List (List Possible)) (e : Edge) (m : AbsCells → X → Bool) (xs : List X) : Type 0 where
  pub keeps : KeepsEdges old new
  pub edge : IsEdge new e
  pub tells : TellsIn new cells e (λ w. list_all (m w) xs)

told_true : (c : Network) (cells : List (List Possible)) (e : Edge) → ((x : ℕ → Bool) (val : Edge → Bool) → Agrees c x val → val e ≡ true) → TellsIn c cells e (λ w. true)
unfolding TellsIn
told_true c cells e h x val a w sh = h x val a

pub all_tell_none : {X : Type 0} (c : Network) (cells : List (List Possible)) (e : Edge) (m : AbsCells → X → Bool) → IsEdge c e → ((x : ℕ → Bool) (val : Edge → Bool) → Agrees c x val → val e ≡ true) → AllTell c c cells e m []
all_tell_none c cells e m h t = record { keeps = keeps_self c; edge = h; tells = told_true c cells e t }

both_tell : {X : Type 0} (mid mid2 new : Network) (cells : List (List Possible)) (e f g : Edge) (m : AbsCells → X → Bool) (xs : List X) (y : X) → TellsIn mid cells e (λ w. list_all (m w) xs) → KeepsEdges mid mid2 → TellsIn mid2 cells f (λ w. m w y) → KeepsEdges mid2 new
    → ((x : ℕ → Bool) (val : Edge → Bool) → Agrees new x val → val g ≡ (val e && val f)) → TellsIn new cells g (λ w. list_all (m w) (xs ++ y ∷ []))
unfolding TellsIn
both_tell mid mid2 new cells e f g m xs y is k are l h x val a w sh =
    h x val a ∙ ap (λ c. c && val f) (is x val (agrees_before mid mid2 x val k (agrees_before mid2 new x val l a)) w sh) ∙ ap (λ c. list_all (m w) xs && c) (are x val (agrees_before mid2 new x val l a) w sh)
    ∙ sym (all_push (m w) xs y)

pub all_tell_more : {X : Type 0} (old mid mid2 new : Network) (cells : List (List Possible)) (e f g : Edge) (m : AbsCells → X → Bool) (xs : List X) (i : ℕ) (d x : X) → i < length xs → x ≡ get_or xs i d
    → AllTell old mid cells e m (take i xs) → KeepsEdges mid mid2 → TellsIn mid2 cells f (λ w. m w x) → KeepsEdges mid2 new → IsEdge new g
    → ((y : ℕ → Bool) (val : Edge → Bool) → Agrees new y val → val g ≡ (val e && val f)) → AllTell old new cells g m (take (i + 1) xs)
all_tell_more old mid mid2 new cells e f g m xs i d x inside is had k one l edge h =
    let more : take (i + 1) xs ≡ take i xs ++ x ∷ [] = take_more xs i d inside ∙ ap (λ z. take i xs ++ z ∷ []) (sym is) in
    subst (AllTell old new cells g m) (sym more) (record {
      keeps = keeps_all old mid2 new (keeps_all old mid mid2 had.keeps k) l;
      edge = edge;
      tells = both_tell mid mid2 new cells e f g m (take i xs) x had.tells k one l h;
    })

pub all_tell_all : {X : Type 0} (old new : Network) (cells : List (List Possible)) (e : Edge) (m : AbsCells → X → Bool) (xs : List X) (i : ℕ) → length xs ≤ i → AllTell old new cells e m (take i xs) → AllTell old new cells e m xs
all_tell_all old new cells e m xs i past had = subst (AllTell old new cells e m) (take_all i xs past) had

pub ruleset leaving = (cells_after, settles_none, settles_all, all_tell_none, all_tell_all)
