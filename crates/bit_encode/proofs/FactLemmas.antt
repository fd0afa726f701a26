-- Edges that tell facts of a coded state, joined one after the other.
use Rattle.std.proofs.Common.{◌≡◌, ℕ, ◌+◌, ◌<◌, ◌≤◌, Bool, true, false, ◌&&◌, ◌||◌, List, [], ◌∷◌, ◌++◌, length, get_or, take, sym, ap, ◌∙◌, subst}
use Rattle.std.specs.List.{list_all, list_any}
use Rattle.std.proofs.lemmas.List.{take_more, take_all}
use Rattle.circuit_core.specs.declared.edge.Edge.{Edge}
use Rattle.circuit_core.specs.Network.{Network, IsEdge}
use Rattle.circuit_core.specs.Growth.{KeepsEdges}
use Rattle.term_core.specs.declared.term.Term.{Term}
use Rattle.other_abstract.specs.declared.node.AbsNode.{AbsNode}
use Rattle.other_abstract.specs.Windows.{Window}
use Rattle.other_abstract.specs.May.{AbsCells}
use Rattle.other_abstract.specs.Tests.{passes, may}
use Rattle.bit_encode.specs.declared.set.Possible.{Possible}
use Rattle.bit_encode.specs.MaySets.{Agrees, held}
use Rattle.bit_encode.specs.Coding.{IsMay}
use Rattle.bit_encode.specs.Terms.{IsMayIn, TellsIn}
use Rattle.bit_encode.proofs.Growing.{keeps_all, keeps_self, agrees_before}
use Rattle.bit_encode.proofs.Gaining.{any_push}
use Rattle.bit_encode.proofs.CellLemmas.{all_push}
use Rattle.bit_encode.proofs.ReadLemmas.{cells_after}

-- an edge of what a term may be
pub may_tells : (mid new : Network) (cells : List (List Possible)) (W : Window) (env env' : List AbsNode) (x : Term) (b : Bool) (s s' : List Possible) (e : Edge) → IsMayIn mid cells W env' x s → env' ≡ env → s' ≡ s → KeepsEdges mid new
    → ((y : ℕ → Bool) (val : Edge → Bool) → Agrees new y val → val e ≡ held val (passes b) s') → TellsIn new cells e (λ w. may W w env x (passes b))
unfolding IsMayIn IsMay TellsIn
may_tells mid new cells W env env' x b s s' e is same l k h y val a w sh =
    h y val a ∙ ap (held val (passes b)) l ∙ is y val (agrees_before mid new y val k a) w sh (passes b) ∙ ap (λ v. may W w v x (passes b)) same

-- the facts of the first items: all of them hold, or one of them does
pub record AllTell {X : Type 0} (old new : Network) (cells : List (List Possible)) (e : Edge) (m : AbsCells → X → Bool) (xs : List X) : Type 0 where
  pub keeps : KeepsEdges old new
  pub edge : IsEdge new e
  pub tells : TellsIn new cells e (λ w. list_all (m w) xs)

pub record AnyTells {X : Type 0} (old new : Network) (cells : List (List Possible)) (e : Edge) (m : AbsCells → X → Bool) (xs : List X) : Type 0 where
  pub keeps : KeepsEdges old new
  pub edge : IsEdge new e
  pub tells : TellsIn new cells e (λ w. list_any (m w) xs)

told_true : (c : Network) (cells : List (List Possible)) (e : Edge) → ((x : ℕ → Bool) (val : Edge → Bool) → Agrees c x val → val e ≡ true) → TellsIn c cells e (λ w. true)
unfolding TellsIn
told_true c cells e h x val a w sh = h x val a

told_false : (c : Network) (cells : List (List Possible)) (e : Edge) → ((x : ℕ → Bool) (val : Edge → Bool) → Agrees c x val → val e ≡ false) → TellsIn c cells e (λ w. false)
unfolding TellsIn
told_false c cells e h x val a w sh = h x val a

pub all_tell_none : {X : Type 0} (c : Network) (cells : List (List Possible)) (e : Edge) (m : AbsCells → X → Bool) → IsEdge c e → ((x : ℕ → Bool) (val : Edge → Bool) → Agrees c x val → val e ≡ true) → AllTell c c cells e m []
all_tell_none c cells e m h t = record { keeps = keeps_self c; edge = h; tells = told_true c cells e t }

pub any_tells_none : {X : Type 0} (c : Network) (cells : List (List Possible)) (e : Edge) (m : AbsCells → X → Bool) → IsEdge c e → ((x : ℕ → Bool) (val : Edge → Bool) → Agrees c x val → val e ≡ false) → AnyTells c c cells e m []
any_tells_none c cells e m h t = record { keeps = keeps_self c; edge = h; tells = told_false c cells e t }

both_tell : (mid mid2 new : Network) (cells : List (List Possible)) (e f g : Edge) (p q : AbsCells → Bool) → TellsIn mid cells e p → KeepsEdges mid mid2 → TellsIn mid2 cells f q → KeepsEdges mid2 new
    → ((x : ℕ → Bool) (val : Edge → Bool) → Agrees new x val → val g ≡ (val e && val f)) → TellsIn new cells g (λ w. p w && q w)
unfolding TellsIn
both_tell mid mid2 new cells e f g p q is k are l h x val a w sh =
    h x val a ∙ ap (λ c. c && val f) (is x val (agrees_before mid mid2 x val k (agrees_before mid2 new x val l a)) w sh) ∙ ap (λ c. p w && c) (are x val (agrees_before mid2 new x val l a) w sh)

either_tells : (mid mid2 new : Network) (cells : List (List Possible)) (e f g : Edge) (p q : AbsCells → Bool) → TellsIn mid cells e p → KeepsEdges mid mid2 → TellsIn mid2 cells f q → KeepsEdges mid2 new
    → ((x : ℕ → Bool) (val : Edge → Bool) → Agrees new x val → val g ≡ (val e || val f)) → TellsIn new cells g (λ w. p w || q w)
unfolding TellsIn
either_tells mid mid2 new cells e f g p q is k are l h x val a w sh =
    h x val a ∙ ap (λ c. c || val f) (is x val (agrees_before mid mid2 x val k (agrees_before mid2 new x val l a)) w sh) ∙ ap (λ c. p w || c) (are x val (agrees_before mid2 new x val l a) w sh)

told_same : (c : Network) (cells : List (List Possible)) (e : Edge) (p q : AbsCells → Bool) → ((w : AbsCells) → p w ≡ q w) → TellsIn c cells e p → TellsIn c cells e q
unfolding TellsIn
told_same c cells e p q same is x val a w sh = is x val a w sh ∙ same w

-- one item more
pub all_tell_more : {X : Type 0} (old mid mid2 new : Network) (cells : List (List Possible)) (e f g : Edge) (m : AbsCells → X → Bool) (xs : List X) (i : ℕ) (d x : X) → i < length xs → x ≡ get_or xs i d
    → AllTell old mid cells e m (take i xs) → KeepsEdges mid mid2 → TellsIn mid2 cells f (λ w. m w x) → KeepsEdges mid2 new → IsEdge new g
    → ((y : ℕ → Bool) (val : Edge → Bool) → Agrees new y val → val g ≡ (val e && val f)) → AllTell old new cells g m (take (i + 1) xs)
all_tell_more old mid mid2 new cells e f g m xs i d x inside is had k one l edge h =
    let more : take (i + 1) xs ≡ take i xs ++ x ∷ [] = take_more xs i d inside ∙ ap (λ z. take i xs ++ z ∷ []) (sym is) in
    subst (AllTell old new cells g m) (sym more) (record {
      keeps = keeps_all old mid2 new (keeps_all old mid mid2 had.keeps k) l;
      edge = edge;
      tells = told_same new cells g (λ w. list_all (m w) (take i xs) && m w x) (λ w. list_all (m w) (take i xs ++ x ∷ [])) (λ w. sym (all_push (m w) (take i xs) x))
          (both_tell mid mid2 new cells e f g (λ w. list_all (m w) (take i xs)) (λ w. m w x) had.tells k one l h);
    })

pub any_tells_more : {X : Type 0} (old mid mid2 new : Network) (cells : List (List Possible)) (e f g : Edge) (m : AbsCells → X → Bool) (xs : List X) (i : ℕ) (d x : X) → i < length xs → x ≡ get_or xs i d
    → AnyTells old mid cells e m (take i xs) → KeepsEdges mid mid2 → TellsIn mid2 cells f (λ w. m w x) → KeepsEdges mid2 new → IsEdge new g
    → ((y : ℕ → Bool) (val : Edge → Bool) → Agrees new y val → val g ≡ (val e || val f)) → AnyTells old new cells g m (take (i + 1) xs)
any_tells_more old mid mid2 new cells e f g m xs i d x inside is had k one l edge h =
    let more : take (i + 1) xs ≡ take i xs ++ x ∷ [] = take_more xs i d inside ∙ ap (λ z. take i xs ++ z ∷ []) (sym is) in
    subst (AnyTells old new cells g m) (sym more) (record {
      keeps = keeps_all old mid2 new (keeps_all old mid mid2 had.keeps k) l;
      edge = edge;
      tells = told_same new cells g (λ w. list_any (m w) (take i xs) || m w x) (λ w. list_any (m w) (take i xs ++ x ∷ [])) (λ w. sym (any_push (m w) (take i xs) x))
          (either_tells mid mid2 new cells e f g (λ w. list_any (m w) (take i xs)) (λ w. m w x) had.tells k one l h);
    })

pub all_tell_all : {X : Type 0} (old new : Network) (cells : List (List Possible)) (e : Edge) (m : AbsCells → X → Bool) (xs : List X) (i : ℕ) → length xs ≤ i → AllTell old new cells e m (take i xs) → AllTell old new cells e m xs
all_tell_all old new cells e m xs i past had = subst (AllTell old new cells e m) (take_all i xs past) had

pub any_tells_all : {X : Type 0} (old new : Network) (cells : List (List Possible)) (e : Edge) (m : AbsCells → X → Bool) (xs : List X) (i : ℕ) → length xs ≤ i → AnyTells old new cells e m (take i xs) → AnyTells old new cells e m xs
any_tells_all old new cells e m xs i past had = subst (AnyTells old new cells e m) (take_all i xs past) had

-- a list that was made is the list that was meant
pub lists_told : {X : Type 0} (c : Network) (cells : List (List Possible)) (e : Edge) (f : AbsCells → List X → Bool) (xs ys : List X) → xs ≡ ys → TellsIn c cells e (λ w. f w xs) → TellsIn c cells e (λ w. f w ys)
lists_told c cells e f xs ys same is = subst (λ zs. TellsIn c cells e (λ w. f w zs)) same is

pub ruleset facts = (cells_after, all_tell_none, any_tells_none, all_tell_all, any_tells_all)
