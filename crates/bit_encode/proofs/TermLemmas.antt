-- Terms in circuits: where indices lead, one after the other; and one lemma for each way that the recursion goes.
use Rattle.std.proofs.Common.{◌≡◌, ℕ, zero, suc, ◌+◌, ◌<◌, ◌≤◌, Bool, true, false, not, ◌&&◌, ◌||◌, List, [], ◌∷◌, ◌++◌, length, get_or, take, drop, refl, sym, ap, ◌∙◌, subst, append_assoc, append-nil, arith}
use Rattle.std.specs.List.{list_all, list_any}
use Rattle.std.proofs.lemmas.List.{take_more, take_all, drop_more}
use Rattle.term_core.specs.declared.value.Value.{Value}
use Rattle.term_core.specs.declared.value.ArithOp.{ArithOp}
use Rattle.term_core.specs.declared.term.Term as t
use Rattle.term_core.specs.declared.term.Term.{Term, the_lemmas}
use Rattle.circuit_core.specs.declared.edge.Edge.{Edge}
use Rattle.circuit_core.specs.Network.{Network, IsEdge}
use Rattle.circuit_core.specs.Growth.{KeepsEdges}
use Rattle.other_abstract.specs.declared.node.AbsNode.{AbsNode}
use Rattle.other_abstract.specs.declared.node.AbsNode.TheVariants.{Kept, Fired, Other}
use Rattle.other_abstract.specs.declared.value.AbsValue.{AbsValue}
use Rattle.other_abstract.specs.declared.value.AbsValue.TheVariants.{Undefined, Truth, Number, Member, Node}
use Rattle.other_abstract.specs.declared.lead.Lead.{Lead}
use Rattle.other_abstract.specs.declared.lead.Lead.TheVariants.{At, Anywhere, Nowhere}
use Rattle.other_abstract.specs.Windows.{Window, truth, constant}
use Rattle.other_abstract.specs.May.{AbsCells, bound, led_to}
use Rattle.other_abstract.specs.Tests.{window_nodes, passes, either_way, may}
use Rattle.other_abstract.specs.Lists.{list_lead, led_by, led_after, joined_lead}
use Rattle.bit_encode.specs.declared.set.Possible.{Possible}
use Rattle.bit_encode.specs.declared.tally.Tally.{Tally}
use Rattle.bit_encode.specs.declared.leads.PossibleLead.{PossibleLead}
use Rattle.bit_encode.specs.declared.combine.PairOp.TheVariants.{Same, Less, Arith}
use Rattle.bit_encode.specs.MaySets.{Agrees, held, pair_passes}
use Rattle.bit_encode.specs.Coding.{Shows, IsMay}
use Rattle.bit_encode.specs.Leads.{held_lead, read_held, IsLed}
use Rattle.bit_encode.specs.Terms.{IsMayIn, IsLedIn, TellsIn, IsLedSoFar}
use Rattle.bit_encode.proofs.Growing.{keeps_all, keeps_self, agrees_before}
use Rattle.bit_encode.proofs.Gaining.{any_push}
use Rattle.bit_encode.proofs.CellLemmas.{all_push}
use Rattle.bit_encode.proofs.LeadLemmas.{leads_after}
use Rattle.bit_encode.proofs.ReadLemmas.{cells_after}
use Rattle.bit_encode.proofs.Arms.{fun_ext, choose, forms_said}

-- Leads joined one after the other.

join_nowhere : (r : Lead) → joined_lead r Nowhere ≡ Nowhere
join_nowhere Nowhere = refl
join_nowhere Anywhere = refl
join_nowhere (At ns) = refl

join_kept : (r s : Lead) (k : ℕ) → joined_lead (led_by r (Kept k)) s ≡ joined_lead r (led_to (Node (Kept k)) s)
join_kept Nowhere s k = refl
join_kept Anywhere Nowhere k = refl
join_kept Anywhere Anywhere k = refl
join_kept Anywhere (At ms) k = refl
join_kept (At ns) Nowhere k = refl
join_kept (At ns) Anywhere k = refl
join_kept (At ns) (At ms) k = ap At (append_assoc ns (Kept k ∷ []) ms)

join_fired : (r s : Lead) (k : ℕ) → joined_lead (led_by r (Fired k)) s ≡ joined_lead r (led_to (Node (Fired k)) s)
join_fired Nowhere s k = refl
join_fired Anywhere Nowhere k = refl
join_fired Anywhere Anywhere k = refl
join_fired Anywhere (At ms) k = refl
join_fired (At ns) Nowhere k = refl
join_fired (At ns) Anywhere k = refl
join_fired (At ns) (At ms) k = ap At (append_assoc ns (Fired k ∷ []) ms)

join_other : (r s : Lead) → joined_lead (led_by r Other) s ≡ joined_lead r (led_to (Node Other) s)
join_other Nowhere s = refl
join_other Anywhere Nowhere = refl
join_other Anywhere Anywhere = refl
join_other Anywhere (At ms) = refl
join_other (At ns) Nowhere = refl
join_other (At ns) Anywhere = refl
join_other (At ns) (At ms) = refl

-- an index joins the leads before it as it begins those after it
join_after : (r : Lead) (x : AbsValue) (s : Lead) → joined_lead (led_after r x) s ≡ joined_lead r (led_to x s)
join_after r Undefined s = sym (join_nowhere r)
join_after r (Truth b) s = sym (join_nowhere r)
join_after r (Number z) s = sym (join_nowhere r)
join_after r (Member k i) s = sym (join_nowhere r)
join_after r (Node (Kept k)) s = join_kept r s k
join_after r (Node (Fired k)) s = join_fired r s k
join_after r (Node Other) s = join_other r s

join_none : (s : Lead) → joined_lead (At []) s ≡ s
join_none Nowhere = refl
join_none Anywhere = refl
join_none (At ms) = refl

join_end : (r : Lead) → joined_lead r (At []) ≡ r
join_end Nowhere = refl
join_end Anywhere = refl
join_end (At ns) = ap At (append-nil ns)

-- What a list of items says, with an edge where each may be so and one where some may be otherwise.
pub record Tallied {X : Type 0} (old new : Network) (cells : List (List Possible)) (t : Tally) (m : AbsCells → X → Bool → Bool) (b : Bool) (xs : List X) : Type 0 where
  pub keeps : KeepsEdges old new
  pub each_edge : IsEdge new t.each
  pub other_edge : IsEdge new t.other
  pub each : TellsIn new cells t.each (λ w. list_all (λ x. m w x b) xs)
  pub other : TellsIn new cells t.other (λ w. list_any (λ x. m w x (not b)) xs)

tells_true : (c : Network) (cells : List (List Possible)) (e : Edge) → ((x : ℕ → Bool) (val : Edge → Bool) → Agrees c x val → val e ≡ true) → TellsIn c cells e (λ w. true)
unfolding TellsIn
tells_true c cells e h x val a w sh = h x val a

tells_false : (c : Network) (cells : List (List Possible)) (e : Edge) → ((x : ℕ → Bool) (val : Edge → Bool) → Agrees c x val → val e ≡ false) → TellsIn c cells e (λ w. false)
unfolding TellsIn
tells_false c cells e h x val a w sh = h x val a

tells_after : (old new : Network) (cells : List (List Possible)) (e : Edge) (f : AbsCells → Bool) → KeepsEdges old new → TellsIn old cells e f → TellsIn new cells e f
unfolding TellsIn
tells_after old new cells e f k h x val a = h x val (agrees_before old new x val k a)

pub tallied_none : {X : Type 0} (c : Network) (cells : List (List Possible)) (each other : Edge) (m : AbsCells → X → Bool → Bool) (b : Bool) → IsEdge c each → IsEdge c other
    → ((x : ℕ → Bool) (val : Edge → Bool) → Agrees c x val → val each ≡ true) → ((x : ℕ → Bool) (val : Edge → Bool) → Agrees c x val → val other ≡ false)
    → Tallied c c cells (record { each = each; other = other }) m b []
tallied_none c cells each other m b h k e f = record { keeps = keeps_self c; each_edge = h; other_edge = k; each = tells_true c cells each e; other = tells_false c cells other f }

-- what a set says of an item, in a circuit
unfoldable pub SaysIn : {X : Type 0} → Network → List (List Possible) → List Possible → (AbsCells → X → Bool → Bool) → X → Type 0
SaysIn c cells vs m x = (y : ℕ → Bool) (val : Edge → Bool) → Agrees c y val → (w : AbsCells) → Shows val cells w → (b : Bool) → held val (passes b) vs ≡ m w x b

each_tells : {X : Type 0} (mid mid2 new : Network) (cells : List (List Possible)) (e e' : Edge) (m : AbsCells → X → Bool → Bool) (b : Bool) (xs : List X) (x : X) (vs : List Possible)
    → TellsIn mid cells e (λ w. list_all (λ x. m w x b) xs) → KeepsEdges mid mid2 → SaysIn mid2 cells vs m x → KeepsEdges mid2 new
    → ((y : ℕ → Bool) (val : Edge → Bool) → Agrees new y val → val e' ≡ (val e && held val (passes b) vs)) → TellsIn new cells e' (λ w. list_all (λ x. m w x b) (xs ++ x ∷ []))
unfolding TellsIn SaysIn
each_tells mid mid2 new cells e e' m b xs x vs had k says l is y val a w sh =
    is y val a
    ∙ ap (λ c. c && held val (passes b) vs) (had y val (agrees_before mid mid2 y val k (agrees_before mid2 new y val l a)) w sh)
    ∙ ap (λ c. list_all (λ x. m w x b) xs && c) (says y val (agrees_before mid2 new y val l a) w sh b)
    ∙ sym (all_push (λ x. m w x b) xs x)

other_tells : {X : Type 0} (mid mid2 new : Network) (cells : List (List Possible)) (e e' : Edge) (m : AbsCells → X → Bool → Bool) (b : Bool) (xs : List X) (x : X) (vs : List Possible)
    → TellsIn mid cells e (λ w. list_any (λ x. m w x b) xs) → KeepsEdges mid mid2 → SaysIn mid2 cells vs m x → KeepsEdges mid2 new
    → ((y : ℕ → Bool) (val : Edge → Bool) → Agrees new y val → val e' ≡ (val e || held val (passes b) vs)) → TellsIn new cells e' (λ w. list_any (λ x. m w x b) (xs ++ x ∷ []))
unfolding TellsIn SaysIn
other_tells mid mid2 new cells e e' m b xs x vs had k says l is y val a w sh =
    is y val a
    ∙ ap (λ c. c || held val (passes b) vs) (had y val (agrees_before mid mid2 y val k (agrees_before mid2 new y val l a)) w sh)
    ∙ ap (λ c. list_any (λ x. m w x b) xs || c) (says y val (agrees_before mid2 new y val l a) w sh b)
    ∙ sym (any_push (λ x. m w x b) xs x)

pub tallied_more : {X : Type 0} (old mid mid2 new : Network) (cells : List (List Possible)) (t t' : Tally) (m : AbsCells → X → Bool → Bool) (b : Bool) (xs : List X) (i : ℕ) (d x : X) (vs vs' : List Possible)
    → i < length xs → x ≡ get_or xs i d → Tallied old mid cells t m b (take i xs) → KeepsEdges mid mid2 → SaysIn mid2 cells vs m x → KeepsEdges mid2 new → vs' ≡ vs → IsEdge new t'.each → IsEdge new t'.other
    → ((y : ℕ → Bool) (val : Edge → Bool) → Agrees new y val → val t'.each ≡ (val t.each && held val (passes b) vs'))
    → ((y : ℕ → Bool) (val : Edge → Bool) → Agrees new y val → val t'.other ≡ (val t.other || held val (passes (not b)) vs'))
    → Tallied old new cells t' m b (take (i + 1) xs)
tallied_more old mid mid2 new cells t t' m b xs i d x vs vs' inside is had k says l same each_edge other_edge each other =
    let more : take (i + 1) xs ≡ take i xs ++ x ∷ [] = take_more xs i d inside ∙ ap (λ z. take i xs ++ z ∷ []) (sym is) in
    subst (Tallied old new cells t' m b) (sym more) (record {
      keeps = keeps_all old mid2 new (keeps_all old mid mid2 had.keeps k) l;
      each_edge = each_edge;
      other_edge = other_edge;
      each = each_tells mid mid2 new cells t.each t'.each m b (take i xs) x vs had.each k says l (λ y val a. each y val a ∙ ap (λ v. val t.each && held val (passes b) v) same);
      other = other_tells mid mid2 new cells t.other t'.other m (not b) (take i xs) x vs had.other k says l (λ y val a. other y val a ∙ ap (λ v. val t.other || held val (passes (not b)) v) same);
    })

pub tallied_all : {X : Type 0} (old new : Network) (cells : List (List Possible)) (t : Tally) (m : AbsCells → X → Bool → Bool) (b : Bool) (xs : List X) (i : ℕ) → length xs ≤ i → Tallied old new cells t m b (take i xs) → Tallied old new cells t m b xs
tallied_all old new cells t m b xs i h had = subst (Tallied old new cells t m b) (take_all i xs h) had

-- Other after all nodes of the window
pub other_last : {X : Type 0} (old mid mid2 new : Network) (cells : List (List Possible)) (t : Tally) (e' : Edge) (m : AbsCells → X → Bool → Bool) (b : Bool) (xs ys : List X) (i : ℕ) (x : X) (vs vs' : List Possible)
    → length xs ≤ i → xs ≡ ys → Tallied old mid cells t m b (take i xs) → KeepsEdges mid mid2 → SaysIn mid2 cells vs m x → KeepsEdges mid2 new → vs' ≡ vs
    → ((y : ℕ → Bool) (val : Edge → Bool) → Agrees new y val → val e' ≡ (val t.other || held val (passes (not b)) vs'))
    → TellsIn new cells e' (λ w. list_any (λ x. m w x (not b)) (ys ++ x ∷ []))
other_last old mid mid2 new cells t e' m b xs ys i x vs vs' past nodes had k says l same other =
    subst (λ zs. TellsIn new cells e' (λ w. list_any (λ x. m w x (not b)) (zs ++ x ∷ []))) nodes
    (other_tells mid mid2 new cells t.other e' m (not b) xs x vs (tallied_all old mid cells t m b xs i past had).other k says l (λ y val a. other y val a ∙ ap (λ v. val t.other || held val (passes (not b)) v) same))

pub each_last : {X : Type 0} (old mid mid2 new : Network) (cells : List (List Possible)) (t : Tally) (e' : Edge) (m : AbsCells → X → Bool → Bool) (b : Bool) (xs ys : List X) (i : ℕ)
    → length xs ≤ i → xs ≡ ys → Tallied old mid cells t m b (take i xs) → KeepsEdges mid mid2 → KeepsEdges mid2 new → e' ≡ t.each
    → TellsIn new cells e' (λ w. list_all (λ x. m w x b) ys)
each_last old mid mid2 new cells t e' m b xs ys i past nodes had k l same =
    subst (λ zs. TellsIn new cells e' (λ w. list_all (λ x. m w x b) zs)) nodes
    (subst (λ e. TellsIn new cells e (λ w. list_all (λ x. m w x b) xs)) (sym same)
    (tells_after mid new cells t.each (λ w. list_all (λ x. m w x b) xs) (keeps_all mid mid2 new k l) (tallied_all old mid cells t m b xs i past had).each))

-- Each arm, from what its parts give.
module _ (cells : List (List Possible)) (W : Window) (env : List AbsNode) where
  pub part_says : (c : Network) (env' : List AbsNode) (x : Term) (vs : List Possible) → env' ≡ env → IsMayIn c cells W env' x vs → SaysIn c cells vs (λ w y b. may W w env y (passes b)) x
  unfolding SaysIn IsMayIn IsMay
  part_says c env' x vs e is y val a w sh b = is y val a w sh (passes b) ∙ ap (λ v. may W w v x (passes b)) e

  pub node_says : (c : Network) (env' : List AbsNode) (n : AbsNode) (body : Term) (vs : List Possible) → env' ≡ env → IsMayIn c cells W (env' ++ n ∷ []) body vs
      → SaysIn c cells vs (λ w k b. may W w (env ++ k ∷ []) body (passes b)) n
  unfolding SaysIn IsMayIn IsMay
  node_says c env' n body vs e is y val a w sh b = is y val a w sh (passes b) ∙ ap (λ v. may W w (v ++ n ∷ []) body (passes b)) e

  may_after : (old new : Network) (env' : List AbsNode) (x y : Term) (s : List Possible) → KeepsEdges old new → env' ≡ env → x ≡ y → IsMayIn old cells W env' x s
      → (v : ℕ → Bool) (val : Edge → Bool) → Agrees new v val → IsMay val cells W env y s
  unfolding IsMayIn
  may_after old new env' x y s k e f is v val a = subst (λ z. IsMay val cells W env z s) f (subst (λ u. IsMay val cells W u x s) e (is v val (agrees_before old new v val k a)))

  pub known_in : (c : Network) (x : Term) (v : Value) (u : AbsValue) (s : List Possible) → x ≡ t.Known v → u ≡ constant v
      → ((y : ℕ → Bool) (val : Edge → Bool) (p : AbsValue → Bool) → Agrees c y val → held val p s ≡ p u) → IsMayIn c cells W env x s
  unfolding IsMayIn
  known_in c x v u s is same h y val a =
      subst (λ z. IsMay val cells W env z s) (sym is) ((forms_said val cells W env).known v s (λ p. h y val p a ∙ ap p same))

  pub variable_in : (c : Network) (x : Term) (k : ℕ) (env' : List AbsNode) (u : AbsValue) (s : List Possible) → x ≡ t.Var k → env' ≡ env → u ≡ bound env' k
      → ((y : ℕ → Bool) (val : Edge → Bool) (p : AbsValue → Bool) → Agrees c y val → held val p s ≡ p u) → IsMayIn c cells W env x s
  unfolding IsMayIn
  variable_in c x k env' u s is e same h y val a =
      subst (λ z. IsMay val cells W env z s) (sym is) ((forms_said val cells W env).variable k s (λ p. h y val p a ∙ ap p (same ∙ ap (λ v. bound v k) e)))

  pub read_in : (mid new : Network) (x : Term) (f : ℕ) (ts ts' : List Term) (rs rs' : List PossibleLead) (s : List Possible) → x ≡ t.Read f ts → ts' ≡ ts → IsLedIn mid cells W env ts' rs → rs' ≡ rs → KeepsEdges mid new
      → ((y : ℕ → Bool) (val : Edge → Bool) (p : AbsValue → Bool) → Agrees new y val → held val p s ≡ held_lead val (read_held val cells W f p) rs') → IsMayIn new cells W env x s
  unfolding IsMayIn IsLedIn
  read_in mid new x f ts ts' rs rs' s is same led l k h y val a =
      subst (λ z. IsMay val cells W env z s) (sym is)
      ((forms_said val cells W env).reading f ts rs s (subst (λ us. IsLed val cells W env us rs) same (led y val (agrees_before mid new y val k a)))
      (λ p. h y val p a ∙ ap (held_lead val (read_held val cells W f p)) l))

  pub negation_in : (mid new : Network) (x a a' : Term) (r r' s : List Possible) → x ≡ t.Not a → a' ≡ a → IsMayIn mid cells W env a' r → r' ≡ r → KeepsEdges mid new
      → ((y : ℕ → Bool) (val : Edge → Bool) (p : AbsValue → Bool) → Agrees new y val → held val p s ≡ held val (λ v. p (Truth (not (truth v)))) r') → IsMayIn new cells W env x s
  unfolding IsMayIn
  negation_in mid new x a a' r r' s is same had l k h y val ag =
      subst (λ z. IsMay val cells W env z s) (sym is)
      ((forms_said val cells W env).negation a r s (may_after mid new env a' a r k refl same had y val ag) (λ p. h y val p ag ∙ ap (held val (λ v. p (Truth (not (truth v))))) l))

  pub and_in : (mid new : Network) (x : Term) (ts us : List Term) (each other : Edge) (s : List Possible) → x ≡ t.And ts → us ≡ ts
      → TellsIn mid cells each (λ w. list_all (λ x. may W w env x (passes true)) us) → TellsIn mid cells other (λ w. list_any (λ x. may W w env x (passes false)) us) → KeepsEdges mid new
      → ((y : ℕ → Bool) (val : Edge → Bool) (p : AbsValue → Bool) → Agrees new y val → held val p s ≡ either_way p true (val each) (val other)) → IsMayIn new cells W env x s
  unfolding IsMayIn TellsIn
  and_in mid new x ts us each other s is same e f k h y val a =
      subst (λ z. IsMay val cells W env z s) (sym is)
      ((forms_said val cells W env).conjunction ts each other s
      (λ w sh. e y val (agrees_before mid new y val k a) w sh ∙ ap (list_all (λ x. may W w env x (passes true))) same)
      (λ w sh. f y val (agrees_before mid new y val k a) w sh ∙ ap (list_any (λ x. may W w env x (passes false))) same) (λ p. h y val p a))

  pub or_in : (mid new : Network) (x : Term) (ts us : List Term) (each other : Edge) (s : List Possible) → x ≡ t.Or ts → us ≡ ts
      → TellsIn mid cells each (λ w. list_all (λ x. may W w env x (passes false)) us) → TellsIn mid cells other (λ w. list_any (λ x. may W w env x (passes true)) us) → KeepsEdges mid new
      → ((y : ℕ → Bool) (val : Edge → Bool) (p : AbsValue → Bool) → Agrees new y val → held val p s ≡ either_way p false (val each) (val other)) → IsMayIn new cells W env x s
  unfolding IsMayIn TellsIn
  or_in mid new x ts us each other s is same e f k h y val a =
      subst (λ z. IsMay val cells W env z s) (sym is)
      ((forms_said val cells W env).disjunction ts each other s
      (λ w sh. e y val (agrees_before mid new y val k a) w sh ∙ ap (list_all (λ x. may W w env x (passes false))) same)
      (λ w sh. f y val (agrees_before mid new y val k a) w sh ∙ ap (list_any (λ x. may W w env x (passes true))) same) (λ p. h y val p a))

  pub quantified_in : (mid new : Network) (x : Term) (all : Bool) (b b' : Term) (each other : Edge) (s : List Possible) → x ≡ t.Quantified all b → b' ≡ b
      → TellsIn mid cells each (λ w. list_all (λ n. may W w (env ++ n ∷ []) b' (passes all)) (window_nodes W))
      → TellsIn mid cells other (λ w. list_any (λ n. may W w (env ++ n ∷ []) b' (passes (not all))) (window_nodes W ++ Other ∷ [])) → KeepsEdges mid new
      → ((y : ℕ → Bool) (val : Edge → Bool) (p : AbsValue → Bool) → Agrees new y val → held val p s ≡ either_way p all (val each) (val other)) → IsMayIn new cells W env x s
  unfolding IsMayIn TellsIn
  quantified_in mid new x all b b' each other s is same e f k h y val a =
      subst (λ z. IsMay val cells W env z s) (sym is)
      (subst (λ c. IsMay val cells W env (t.Quantified all c) s) same ((forms_said val cells W env).quantified all b' each other s
      (λ w sh. e y val (agrees_before mid new y val k a) w sh) (λ w sh. f y val (agrees_before mid new y val k a) w sh) (λ p. h y val p a)))

  pub same_in : (mid mid2 new : Network) (x a b a' b' : Term) (env' : List AbsNode) (ra rb ra' rb' s : List Possible) → x ≡ t.Same a b → a' ≡ a → b' ≡ b
      → IsMayIn mid cells W env a' ra → env' ≡ env → KeepsEdges mid mid2 → IsMayIn mid2 cells W env' b' rb → ra' ≡ ra → rb' ≡ rb → KeepsEdges mid2 new
      → ((y : ℕ → Bool) (val : Edge → Bool) (p : AbsValue → Bool) → Agrees new y val → held val p s ≡ held val (λ u. held val (pair_passes Same p u) rb') ra') → IsMayIn new cells W env x s
  unfolding IsMayIn
  same_in mid mid2 new x a b a' b' env' ra rb ra' rb' s is f g ia e k ib l r n h y val ag =
      subst (λ z. IsMay val cells W env z s) (sym is)
      ((forms_said val cells W env).comparison a b ra rb s (may_after mid new env a' a ra (keeps_all mid mid2 new k n) refl f ia y val ag) (may_after mid2 new env' b' b rb n e g ib y val ag)
      (λ p. h y val p ag ∙ ap (λ z. held val (λ u. held val (pair_passes Same p u) z) ra') r ∙ ap (held val (λ u. held val (pair_passes Same p u) rb)) l))

  pub less_in : (mid mid2 new : Network) (x a b a' b' : Term) (env' : List AbsNode) (ra rb ra' rb' s : List Possible) → x ≡ t.Less a b → a' ≡ a → b' ≡ b
      → IsMayIn mid cells W env a' ra → env' ≡ env → KeepsEdges mid mid2 → IsMayIn mid2 cells W env' b' rb → ra' ≡ ra → rb' ≡ rb → KeepsEdges mid2 new
      → ((y : ℕ → Bool) (val : Edge → Bool) (p : AbsValue → Bool) → Agrees new y val → held val p s ≡ held val (λ u. held val (pair_passes Less p u) rb') ra') → IsMayIn new cells W env x s
  unfolding IsMayIn
  less_in mid mid2 new x a b a' b' env' ra rb ra' rb' s is f g ia e k ib l r n h y val ag =
      subst (λ z. IsMay val cells W env z s) (sym is)
      ((forms_said val cells W env).order a b ra rb s (may_after mid new env a' a ra (keeps_all mid mid2 new k n) refl f ia y val ag) (may_after mid2 new env' b' b rb n e g ib y val ag)
      (λ p. h y val p ag ∙ ap (λ z. held val (λ u. held val (pair_passes Less p u) z) ra') r ∙ ap (held val (λ u. held val (pair_passes Less p u) rb)) l))

  pub arith_in : (mid mid2 new : Network) (op : ArithOp) (x a b a' b' : Term) (env' : List AbsNode) (ra rb ra' rb' s : List Possible) → x ≡ t.Arith op a b → a' ≡ a → b' ≡ b
      → IsMayIn mid cells W env a' ra → env' ≡ env → KeepsEdges mid mid2 → IsMayIn mid2 cells W env' b' rb → ra' ≡ ra → rb' ≡ rb → KeepsEdges mid2 new
      → ((y : ℕ → Bool) (val : Edge → Bool) (p : AbsValue → Bool) → Agrees new y val → held val p s ≡ held val (λ u. held val (pair_passes (Arith op) p u) rb') ra') → IsMayIn new cells W env x s
  unfolding IsMayIn
  arith_in mid mid2 new op x a b a' b' env' ra rb ra' rb' s is f g ia e k ib l r n h y val ag =
      subst (λ z. IsMay val cells W env z s) (sym is)
      ((forms_said val cells W env).result op a b ra rb s (may_after mid new env a' a ra (keeps_all mid mid2 new k n) refl f ia y val ag) (may_after mid2 new env' b' b rb n e g ib y val ag)
      (λ p. h y val p ag ∙ ap (λ z. held val (λ u. held val (pair_passes (Arith op) p u) z) ra') r ∙ ap (held val (λ u. held val (pair_passes (Arith op) p u) rb)) l))

  choice_seen : (val : Edge → Bool) (a b d : Term) (ra rb rd s : List Possible) → IsMay val cells W env a ra → IsMay val cells W env b rb → IsMay val cells W env d rd
      → ((p : AbsValue → Bool) → held val p s ≡ ((held val p rb && held val (passes true) ra) || (held val p rd && held val (passes false) ra))) → IsMay val cells W env (t.If a b d) s
  unfolding IsMay
  choice_seen val a b d ra rb rd s ia ib id h w sh p =
      h p ∙ choose W w env a b d (held val (passes true) ra) (held val (passes false) ra) (held val p rb) (held val p rd) p (ia w sh (passes true)) (ia w sh (passes false)) (ib w sh p) (id w sh p)

  pub choice_in : (mid mid2 mid3 new : Network) (x a b d a' b' d' : Term) (env' env'' : List AbsNode) (ra rb rd ra' rb' rd' s : List Possible) → x ≡ t.If a b d → a' ≡ a → b' ≡ b → d' ≡ d
      → IsMayIn mid cells W env a' ra → env' ≡ env → KeepsEdges mid mid2 → IsMayIn mid2 cells W env' b' rb → env'' ≡ env' → KeepsEdges mid2 mid3 → IsMayIn mid3 cells W env'' d' rd
      → ra' ≡ ra → rb' ≡ rb → rd' ≡ rd → KeepsEdges mid3 new
      → ((y : ℕ → Bool) (val : Edge → Bool) (p : AbsValue → Bool) → Agrees new y val → held val p s ≡ ((held val p rb' && held val (passes true) ra') || (held val p rd' && held val (passes false) ra')))
      → IsMayIn new cells W env x s
  unfolding IsMayIn
  choice_in mid mid2 mid3 new x a b d a' b' d' env' env'' ra rb rd ra' rb' rd' s is f g i ia e k ib e2 l id sa sb sd n h y val ag =
      subst (λ z. IsMay val cells W env z s) (sym is)
      (choice_seen val a b d ra rb rd s
      (may_after mid new env a' a ra (keeps_all mid mid2 new k (keeps_all mid2 mid3 new l n)) refl f ia y val ag)
      (may_after mid2 new env' b' b rb (keeps_all mid2 mid3 new l n) e g ib y val ag)
      (may_after mid3 new env'' d' d rd n (e2 ∙ e) i id y val ag)
      (λ p. h y val p ag
      ∙ ap (λ z. (held val p rb' && held val (passes true) z) || (held val p rd' && held val (passes false) z)) sa
      ∙ ap (λ z. (held val p z && held val (passes true) ra) || (held val p rd' && held val (passes false) ra)) sb
      ∙ ap (λ z. (held val p rb && held val (passes true) ra) || (held val p z && held val (passes false) ra)) sd))

  -- the indices of a read
  pub led_start : (c : Network) (ts : List Term) (rs : List PossibleLead) → ((y : ℕ → Bool) (val : Edge → Bool) (q : Lead → Bool) → Agrees c y val → held_lead val q rs ≡ q (At [])) → IsLedSoFar c cells W env ts rs ts
  unfolding IsLedSoFar
  led_start c ts rs h y val a w sh q = h y val (λ r. list_lead W w env ts (λ s. q (joined_lead r s))) a ∙ ap (list_lead W w env ts) (fun_ext (λ s. ap q (join_none s)))

  led_more : (mid mid2 new : Network) (x : Term) (rest all : List Term) (env' : List AbsNode) (rs out : List PossibleLead) (vs : List Possible) → IsLedSoFar mid cells W env (x ∷ rest) rs all → env' ≡ env
      → KeepsEdges mid mid2 → IsMayIn mid2 cells W env' x vs → KeepsEdges mid2 new
      → ((y : ℕ → Bool) (val : Edge → Bool) (q : Lead → Bool) → Agrees new y val → held_lead val q out ≡ held_lead val (λ r. held val (λ v. q (led_after r v)) vs) rs) → IsLedSoFar new cells W env rest out all
  unfolding IsLedSoFar IsMay
  led_more mid mid2 new x rest all env' rs out vs led e k is l h y val a w sh q =
      h y val (λ r. list_lead W w env rest (λ s. q (joined_lead r s))) a
      ∙ ap (λ g. held_lead val g rs) (fun_ext (λ r.
      ap (λ g. held val g vs) (fun_ext (λ v. ap (list_lead W w env rest) (fun_ext (λ s. ap q (join_after r v s)))))
      ∙ may_after mid2 new env' x x vs l e refl is y val a w sh (λ v. list_lead W w env rest (λ s. q (joined_lead r (led_to v s))))))
      ∙ led y val (agrees_before mid mid2 y val k (agrees_before mid2 new y val l a)) w sh q

  pub led_step : (mid mid2 new : Network) (at : List Term) (i : ℕ) (d x : Term) (env' : List AbsNode) (rs rs' out : List PossibleLead) (vs vs' : List Possible) → i < length at → x ≡ get_or at i d
      → IsLedSoFar mid cells W env (drop i at) rs at → env' ≡ env → KeepsEdges mid mid2 → IsMayIn mid2 cells W env' x vs → rs' ≡ rs → vs' ≡ vs → KeepsEdges mid2 new
      → ((y : ℕ → Bool) (val : Edge → Bool) (q : Lead → Bool) → Agrees new y val → held_lead val q out ≡ held_lead val (λ r. held val (λ v. q (led_after r v)) vs') rs')
      → IsLedSoFar new cells W env (drop (i + 1) at) out at
  led_step mid mid2 new at i d x env' rs rs' out vs vs' inside is led e k may_is r v l h =
      led_more mid mid2 new x (drop (i + 1) at) at env' rs out vs
      (subst (λ ts. IsLedSoFar mid cells W env ts rs at) (drop_more at i d inside ∙ ap (λ z. z ∷ drop (i + 1) at) (sym is)) led) e k may_is l
      (λ y val q a. h y val q a ∙ ap (λ z. held_lead val (λ r. held val (λ v. q (led_after r v)) z) rs') v ∙ ap (held_lead val (λ r. held val (λ v. q (led_after r v)) vs)) r)

  led_end : (c : Network) (rs : List PossibleLead) (all : List Term) → IsLedSoFar c cells W env [] rs all → IsLedIn c cells W env all rs
  unfolding IsLedSoFar IsLedIn IsLed
  led_end c rs all led y val a w sh q = ap (λ g. held_lead val g rs) (fun_ext (λ r. ap q (sym (join_end r)))) ∙ led y val a w sh q

  pub led_done : (c : Network) (at : List Term) (i : ℕ) (rs : List PossibleLead) → length at ≤ i → IsLedSoFar c cells W env (drop i at) rs at → IsLedIn c cells W env at rs
  led_done c at i rs past led = led_end c rs at (subst (λ ts. IsLedSoFar c cells W env ts rs at) (drop_past at i past) led)
    where
      drop_past : {X : Type 0} (xs : List X) (i : ℕ) → length xs ≤ i → drop i xs ≡ []
      drop_past [] zero h = refl
      drop_past [] (suc i) h = refl
      drop_past (y ∷ ys) zero h = absurd (omega (arith, h))
      drop_past (y ∷ ys) (suc i) h = drop_past ys i (omega (arith, h))

pub ruleset terms = (cells_after, leads_after, led_start, tallied_none, the_lemmas)
