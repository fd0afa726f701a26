-- Edges that tell facts of two coded states.
use Rattle.std.proofs.Common.{◌≡◌, ℕ, zero, suc, ◌+◌, ◌<◌, ◌≤◌, Bool, true, false, cond, ◌&&◌, ◌||◌, List, [], ◌∷◌, ◌++◌, length, get_or, take, drop, Option, None, Some, refl, sym, ap, ◌∙◌, subst, arith}
use Rattle.std.specs.Prelude.{nat_eq}
use Rattle.std.specs.List.{list_all}
use Rattle.std.proofs.lemmas.List.{take_more, take_all, drop_more}
use Rattle.circuit_core.specs.declared.edge.Edge.{Edge}
use Rattle.circuit_core.specs.Network.{Network, IsEdge}
use Rattle.circuit_core.specs.Growth.{KeepsEdges}
use Rattle.term_core.specs.declared.term.Term.{Term}
use Rattle.term_core.specs.declared.machine.Update.{Update}
use Rattle.term_core.specs.Firing.{update_for}
use Rattle.other_abstract.specs.declared.node.AbsNode.{AbsNode}
use Rattle.other_abstract.specs.declared.value.AbsValue.{AbsValue}
use Rattle.other_abstract.specs.declared.lead.Lead.TheVariants.{At}
use Rattle.other_abstract.specs.declared.place.Place.{Place}
use Rattle.other_abstract.specs.Windows.{Window, same_value}
use Rattle.other_abstract.specs.May.{AbsCells, value_at}
use Rattle.other_abstract.specs.Tests.{may}
use Rattle.other_abstract.specs.Machines.{read_kept}
use Rattle.other_abstract.specs.Stepping.{kept_value, may_become}
use Rattle.bit_encode.specs.declared.set.Possible.{Possible}
use Rattle.bit_encode.specs.MaySets.{Agrees, held}
use Rattle.bit_encode.specs.Coding.{IsMay}
use Rattle.bit_encode.specs.Leads.{set_at, set_passes}
use Rattle.bit_encode.specs.Terms.{IsMayIn}
use Rattle.bit_encode.specs.Steps.{IsCellIn, TellsBoth}
use Rattle.bit_encode.proofs.Growing.{keeps_all, keeps_self, agrees_before}
use Rattle.bit_encode.proofs.Arms.{fun_ext}
use Rattle.bit_encode.proofs.CellLemmas.{all_push}
use Rattle.bit_encode.proofs.SetLemmas.{and_true}
use Rattle.bit_encode.proofs.PlacingLemmas.{read_is_seen}
use Rattle.bit_encode.proofs.ReadLemmas.{cells_after}

-- the set of a cell
pub cell_told : (c : Network) (cells : List (List Possible)) (W : Window) (f : ℕ) (ns : List AbsNode) (e : Edge) (before s : List Possible) → before ≡ []
    → ((x : ℕ → Bool) (val : Edge → Bool) → Agrees c x val → val e ≡ true)
    → ((x : ℕ → Bool) (val : Edge → Bool) (p : AbsValue → Bool) → Agrees c x val → held val p s ≡ (held val p before || (set_passes val p (set_at W cells f ns) && val e))) → IsCellIn c cells W f ns s
unfolding IsCellIn
cell_told c cells W f ns e before s none always h x val a w sh p =
    h x val p a ∙ ap (λ b. held val p b || (set_passes val p (set_at W cells f ns) && val e)) none
    ∙ ap (λ b. set_passes val p (set_at W cells f ns) && b) (always x val a) ∙ and_true (set_passes val p (set_at W cells f ns))
    ∙ read_is_seen val cells W w f p (At ns) sh

-- cells that agree
pub left_tells : (mid mid2 new : Network) (wide kept : List (List Possible)) (W K : Window) (place : Place) (at at2 : List AbsNode) (from from' to to' : List Possible) (e : Edge)
    → at ≡ place.at → IsCellIn mid wide W place.family at from → from' ≡ from → KeepsEdges mid mid2 → at2 ≡ place.at → IsCellIn mid2 kept K place.family at2 to → to' ≡ to → KeepsEdges mid2 new
    → ((x : ℕ → Bool) (val : Edge → Bool) → Agrees new x val → val e ≡ held val (λ v. held val (same_value (read_kept v)) to') from')
    → TellsBoth new wide kept e (λ w t. same_value (kept_value W w place) (value_at K t place.family place.at))
unfolding IsCellIn TellsBoth
left_tells mid mid2 new wide kept W K place at at2 from from' to to' e sa isf sf k sb ist st l h x val a w t shw sht =
    h x val a
    ∙ ap (λ s. held val (λ v. held val (same_value (read_kept v)) to') s) sf
    ∙ ap (λ s. held val (λ v. held val (same_value (read_kept v)) s) from) st
    ∙ isf x val (agrees_before mid mid2 x val k (agrees_before mid2 new x val l a)) w shw (λ v. held val (same_value (read_kept v)) to)
    ∙ ist x val (agrees_before mid2 new x val l a) t sht (same_value (read_kept (value_at W w place.family at)))
    ∙ ap (λ ns. same_value (read_kept (value_at W w place.family ns)) (value_at K t place.family at2)) sa
    ∙ ap (λ ns. same_value (kept_value W w place) (value_at K t place.family ns)) sb

pub updated_tells : (mid mid2 new : Network) (wide kept : List (List Possible)) (W K : Window) (env env' : List AbsNode) (body : Term) (f : ℕ) (ns ns2 : List AbsNode) (from from' to to' : List Possible) (e : Edge)
    → IsMayIn mid wide W env' body from → env' ≡ env → from' ≡ from → KeepsEdges mid mid2 → ns2 ≡ ns → IsCellIn mid2 kept K f ns2 to → to' ≡ to → KeepsEdges mid2 new
    → ((x : ℕ → Bool) (val : Edge → Bool) → Agrees new x val → val e ≡ held val (λ v. held val (same_value (read_kept v)) to') from')
    → TellsBoth new wide kept e (λ w t. may W w env body (λ x. same_value (read_kept x) (value_at K t f ns)))
unfolding IsCellIn IsMayIn IsMay TellsBoth
updated_tells mid mid2 new wide kept W K env env' body f ns ns2 from from' to to' e is se sf k sb ist st l h x val a w t shw sht =
    h x val a
    ∙ ap (λ s. held val (λ v. held val (same_value (read_kept v)) to') s) sf
    ∙ ap (λ s. held val (λ v. held val (same_value (read_kept v)) s) from) st
    ∙ ap (λ q. held val q from) (fun_ext (λ v. ist x val (agrees_before mid2 new x val l a) t sht (same_value (read_kept v))))
    ∙ is x val (agrees_before mid mid2 x val k (agrees_before mid2 new x val l a)) w shw (λ v. same_value (read_kept v) (value_at K t f ns2))
    ∙ ap (λ en. may W w en body (λ v. same_value (read_kept v) (value_at K t f ns2))) se
    ∙ ap (λ ms. may W w env body (λ v. same_value (read_kept v) (value_at K t f ms))) sb

-- the update of a family where it is found, past others, and past the last
pub update_here : (us : List Update) (i : ℕ) (d u : Update) (f : ℕ) → i < length us → u ≡ get_or us i d → u.family ≡ f → update_for (drop i us) f ≡ update_for us f → update_for us f ≡ Some u.body
update_here us i d u f inside is same before =
    let q : nat_eq u.family f ≡ true = grind (arith, same) in
    sym before ∙ ap (λ vs. update_for vs f) (drop_more us i d inside ∙ ap (λ z. z ∷ drop (i + 1) us) (sym is)) ∙ ap (λ b. cond b (Some u.body) (update_for (drop (i + 1) us) f)) q

pub update_skip : (us : List Update) (i : ℕ) (d u : Update) (f : ℕ) → i < length us → u ≡ get_or us i d → (u.family ≡ f → ⊥) → update_for (drop i us) f ≡ update_for us f → update_for (drop (i + 1) us) f ≡ update_for us f
update_skip us i d u f inside is other before =
    let q : nat_eq u.family f ≡ false = grind (arith, other) in
    sym (ap (λ vs. update_for vs f) (drop_more us i d inside ∙ ap (λ z. z ∷ drop (i + 1) us) (sym is)) ∙ ap (λ b. cond b (Some u.body) (update_for (drop (i + 1) us) f)) q) ∙ before

pub update_past : (us : List Update) (i f : ℕ) → length us ≤ i → update_for (drop i us) f ≡ update_for us f → update_for us f ≡ None
update_past us i f past before = sym before ∙ ap (λ vs. update_for vs f) (drop_past us i past)
  where
    drop_past : (us : List Update) (i : ℕ) → length us ≤ i → drop i us ≡ []
    drop_past [] zero h = refl
    drop_past [] (suc i) h = refl
    drop_past (v ∷ vs) zero h = absurd (omega (arith, h))
    drop_past (v ∷ vs) (suc i) h = drop_past vs i (omega (arith, h))

pub becomes_some : (c : Network) (wide kept : List (List Possible)) (W K : Window) (p : List AbsNode) (o : Option Term) (body : Term) (place : Place) (e : Edge) → o ≡ Some body
    → TellsBoth c wide kept e (λ w t. may W w (p ++ place.at) body (λ x. same_value (read_kept x) (value_at K t place.family place.at)))
    → TellsBoth c wide kept e (λ w t. may_become W w p o place (value_at K t place.family place.at))
becomes_some c wide kept W K p o body place e is tells = subst (λ q. TellsBoth c wide kept e (λ w t. may_become W w p q place (value_at K t place.family place.at))) (sym is) tells

pub becomes_none : (c : Network) (wide kept : List (List Possible)) (W K : Window) (p : List AbsNode) (o : Option Term) (place : Place) (e : Edge) → o ≡ None
    → TellsBoth c wide kept e (λ w t. same_value (kept_value W w place) (value_at K t place.family place.at))
    → TellsBoth c wide kept e (λ w t. may_become W w p o place (value_at K t place.family place.at))
becomes_none c wide kept W K p o place e is tells = subst (λ q. TellsBoth c wide kept e (λ w t. may_become W w p q place (value_at K t place.family place.at))) (sym is) tells

-- what the first cells say
pub record AllTellBoth {X : Type 0} (old new : Network) (wide kept : List (List Possible)) (e : Edge) (m : AbsCells → AbsCells → X → Bool) (xs : List X) : Type 0 where
  pub keeps : KeepsEdges old new
  pub edge : IsEdge new e
  pub tells : TellsBoth new wide kept e (λ w t. list_all (m w t) xs)

told_true : (c : Network) (wide kept : List (List Possible)) (e : Edge) → ((x : ℕ → Bool) (val : Edge → Bool) → Agrees c x val → val e ≡ true) → TellsBoth c wide kept e (λ w t. true)
unfolding TellsBoth
told_true c wide kept e h x val a w t shw sht = h x val a

pub both_none : {X : Type 0} (c : Network) (wide kept : List (List Possible)) (e : Edge) (m : AbsCells → AbsCells → X → Bool) → IsEdge c e → ((x : ℕ → Bool) (val : Edge → Bool) → Agrees c x val → val e ≡ true) → AllTellBoth c c wide kept e m []
both_none c wide kept e m h t = record { keeps = keeps_self c; edge = h; tells = told_true c wide kept e t }

joined_tells : {X : Type 0} (mid mid2 new : Network) (wide kept : List (List Possible)) (e f g : Edge) (m : AbsCells → AbsCells → X → Bool) (xs : List X) (y : X) → TellsBoth mid wide kept e (λ w t. list_all (m w t) xs) → KeepsEdges mid mid2
    → TellsBoth mid2 wide kept f (λ w t. m w t y) → KeepsEdges mid2 new → ((x : ℕ → Bool) (val : Edge → Bool) → Agrees new x val → val g ≡ (val e && val f)) → TellsBoth new wide kept g (λ w t. list_all (m w t) (xs ++ y ∷ []))
unfolding TellsBoth
joined_tells mid mid2 new wide kept e f g m xs y is k are l h x val a w t shw sht =
    h x val a ∙ ap (λ c. c && val f) (is x val (agrees_before mid mid2 x val k (agrees_before mid2 new x val l a)) w t shw sht)
    ∙ ap (λ c. list_all (m w t) xs && c) (are x val (agrees_before mid2 new x val l a) w t shw sht) ∙ sym (all_push (m w t) xs y)

pub both_more : {X : Type 0} (old mid mid2 new : Network) (wide kept : List (List Possible)) (e f g : Edge) (m : AbsCells → AbsCells → X → Bool) (xs : List X) (i : ℕ) (d x : X) → i < length xs → x ≡ get_or xs i d
    → AllTellBoth old mid wide kept e m (take i xs) → KeepsEdges mid mid2 → TellsBoth mid2 wide kept f (λ w t. m w t x) → KeepsEdges mid2 new → IsEdge new g
    → ((y : ℕ → Bool) (val : Edge → Bool) → Agrees new y val → val g ≡ (val e && val f)) → AllTellBoth old new wide kept g m (take (i + 1) xs)
both_more old mid mid2 new wide kept e f g m xs i d x inside is had k one l edge h =
    let more : take (i + 1) xs ≡ take i xs ++ x ∷ [] = take_more xs i d inside ∙ ap (λ z. take i xs ++ z ∷ []) (sym is) in
    subst (AllTellBoth old new wide kept g m) (sym more) (record {
      keeps = keeps_all old mid2 new (keeps_all old mid mid2 had.keeps k) l;
      edge = edge;
      tells = joined_tells mid mid2 new wide kept e f g m (take i xs) x had.tells k one l h;
    })

pub both_all : {X : Type 0} (old new : Network) (wide kept : List (List Possible)) (e : Edge) (m : AbsCells → AbsCells → X → Bool) (xs : List X) (i : ℕ) → length xs ≤ i → AllTellBoth old new wide kept e m (take i xs) → AllTellBoth old new wide kept e m xs
both_all old new wide kept e m xs i past had = subst (AllTellBoth old new wide kept e m) (take_all i xs past) had

pub ruleset stepping = (cells_after, both_none, both_all)
