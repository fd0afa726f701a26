-- What the updates of a rule make of the cells.
use Rattle.std.proofs.Common.{◌≡◌, ℕ, zero, suc, ◌+◌, ◌<◌, Bool, true, false, List, [], ◌∷◌, ◌++◌, length, map, Option, None, Some, refl, sym, ap, ◌∙◌, subst, arith}
use Rattle.std.specs.Prelude.{if◌then◌else◌, nat_eq, slice_get}
use Rattle.term_core.specs.Firing.{update_for}
use Rattle.std.specs.List.{list_all}
use Rattle.std.specs.Option.{option_map_or}
use Rattle.term_core.specs.declared.value.Value.{Value}
use Rattle.term_core.specs.declared.value.Value.TheVariants as v
use Rattle.term_core.specs.Nodes.{is_node}
use Rattle.term_core.specs.Meaning.{Cells, value_of}
use Rattle.murphi_typed.specs.Families.{path_of, cells}
use Rattle.murphi_typed.specs.Store.{Global, Cells as Store}
use Rattle.murphi_typed.specs.declared.protocol.Typed.{Typed}
use Rattle.rule_inline.specs.Tables.{Key, holes, Terms, Change, writes}
use Rattle.rule_inline.specs.Presents.{cell_in}
use Rattle.rule_inline.specs.Machine.{fixed, family_of, families_of}
use Rattle.rule_inline.proofs.PlaceLemmas.{NoNodes, Rep}
use Rattle.rule_inline.proofs.ChangeLemmas.{Unwritten}
use Rattle.rule_inline.proofs.LeftLemmas.{some_or_none}
use Rattle.std.specs.List.{flat_map}
use Rattle.std.proofs.lemmas.Bool.{and_parts}
use Rattle.std.proofs.Common.{◌≤◌}
use Rattle.term_core.specs.Nodes.{nodes, nodes_from}
use Rattle.murphi_typed.specs.declared.types.Simple.{Simple}
use Rattle.murphi_typed.specs.declared.types.Simple.TheVariants as simple
use Rattle.murphi_typed.specs.declared.protocol.Variable.{Variable}
use Rattle.murphi_typed.specs.Values.{values}
use Rattle.murphi_typed.specs.Families.{Cell, ways, axes_of, choices, cells_on, cells_from}
use Rattle.murphi_typed.specs.Steps.{cells_of, state_of, value_in}
use Rattle.murphi_typed.specs.Laws.{StatesHaveValues}
use Rattle.rule_inline.specs.Presents.{at_nodes}
use Rattle.rule_inline.proofs.FirstTerms.{Each, each_of, each_map, each_under, each_weaker, each_joined, each_parts, each_flat, each_flat_parts}
use Rattle.rule_inline.specs.Machine.{CellsOf, slot_of, updates_from}
use Rattle.rule_inline.proofs.ValueLemmas.{nat_itself}

no_update : (first : ℕ) (cs : List CellsOf) (change : Change) (f : ℕ) → f < first → update_for (updates_from first cs change) f ≡ None
no_update first [] change f less = refl
no_update first (d ∷ cs) change f less = go (no_update (suc first) cs change f (omega (arith, less))) (writes (slot_of d) change)
  where
    go : update_for (updates_from (suc first) cs change) f ≡ None → (b : Bool) → update_for (if b then record { family = first; body = change.now (slot_of d) } ∷ updates_from (suc first) cs change else updates_from (suc first) cs change) f ≡ None
    go rest false = rest
    go rest true = ap (λ b. if b then Some (change.now (slot_of d)) else update_for (updates_from (suc first) cs change) f) (other (nat_eq first f) refl) ∙ rest
      where
        other : (b : Bool) → nat_eq first f ≡ b → nat_eq first f ≡ false
        other false e = e
        other true e = absurd (grind (arith, less, e))

-- the update of a family, if the body writes it
pub update_is : (first : ℕ) (cs : List CellsOf) (change : Change) (f i : ℕ) (d : CellsOf) → f ≡ first + i → slice_get cs i ≡ Some d
    → update_for (updates_from first cs change) f ≡ (if writes (slot_of d) change then Some (change.now (slot_of d)) else None)
update_is first [] change f i d at found = cc
update_is first (e ∷ cs) change f zero d at found =
    subst (λ g. update_for (updates_from first (e ∷ cs) change) f ≡ (if writes (slot_of g) change then Some (change.now (slot_of g)) else None)) same (go (no_update (suc first) cs change f (omega (arith, at))) (writes (slot_of e) change))
  where
    same : e ≡ d
    same = cc

    go : update_for (updates_from (suc first) cs change) f ≡ None → (b : Bool) → update_for (if b then record { family = first; body = change.now (slot_of e) } ∷ updates_from (suc first) cs change else updates_from (suc first) cs change) f ≡ (if b then Some (change.now (slot_of e)) else None)
    go rest false = rest
    go rest true = ap (λ b. if b then Some (change.now (slot_of e)) else update_for (updates_from (suc first) cs change) f) (ap (nat_eq first) (at ∙ omega arith) ∙ nat_itself first)
update_is first (e ∷ cs) change f (suc i) d at found = go (update_is (suc first) cs change f i d (at ∙ omega arith) found) (writes (slot_of e) change)
  where
    go : update_for (updates_from (suc first) cs change) f ≡ (if writes (slot_of d) change then Some (change.now (slot_of d)) else None) → (b : Bool)
        → update_for (if b then record { family = first; body = change.now (slot_of e) } ∷ updates_from (suc first) cs change else updates_from (suc first) cs change) f ≡ (if writes (slot_of d) change then Some (change.now (slot_of d)) else None)
    go rest false = rest
    go rest true = ap (λ b. if b then Some (change.now (slot_of e)) else update_for (updates_from (suc first) cs change) f) (other (nat_eq first f) refl) ∙ rest
      where
        other : (b : Bool) → nat_eq first f ≡ b → nat_eq first f ≡ false
        other false e = e
        other true e = absurd (grind (arith, at, e))

-- the keys of families have no nodes

pub fixed_no : (at : List Value) → NoNodes (map fixed at)
fixed_no [] = tt
fixed_no (v.Undefined ∷ at) = (refl, fixed_no at)
fixed_no (v.Truth b ∷ at) = (refl, fixed_no at)
fixed_no (v.Number z ∷ at) = (refl, fixed_no at)
fixed_no (v.Member k i ∷ at) = (refl, fixed_no at)
fixed_no (v.Node n ∷ at) = fixed_no at

pub each_at : {X : Type 0} (P : X → Type 0) (xs : List X) → Each P xs → (k : ℕ) (y : X) → slice_get xs k ≡ Some y → P y
each_at P [] e k y found = cc
each_at P (z ∷ zs) (p, e) zero y found = let same : z ≡ y = cc in subst P same p
each_at P (z ∷ zs) (p, e) (suc k) y found = each_at P zs e k y found

pub key_no_nodes : (T : Typed) (f : ℕ) (d : CellsOf) → slice_get (families_of T) f ≡ Some d → NoNodes d.key
key_no_nodes T f d found = each_at (λ d. NoNodes d.key) (families_of T) (each_map (λ (d : CellsOf). NoNodes d.key) family_of (cells 1 T) (each_of (λ c. NoNodes (family_of c).key) (λ c. fixed_no c.at) (cells 1 T))) f d found

-- the new value of a cell is that of the store which the last terms represent
pub new_is : (N : ℕ) (T : Typed) (c : Cells) (ns : List ℕ) (first : Terms) (change : Change) (start final : Store) → Rep N c 0 ns first start → Rep N c 0 ns change.now final → Unwritten 0 first change
    → (f : ℕ) (d : CellsOf) (at : List ℕ) → slice_get (families_of T) f ≡ Some d → length at ≡ holes d.key → list_all (is_node N) at ≡ true → c f at ≡ cell_in start d at
    → option_map_or (λ body. value_of N c (ns ++ at) body) (update_for (updates_from 0 (families_of T) change) f) (c f at) ≡ cell_in final d at
new_is N T c ns first change start final before after unwritten f d at found long nodes own =
    ap (λ o. option_map_or (λ body. value_of N c (ns ++ at) body) o (c f at)) (update_is 0 (families_of T) change f f d (omega arith) found) ∙ go (writes (slot_of d) change) refl
  where
    last : value_of N c (ns ++ at) (change.now (slot_of d)) ≡ cell_in final d at
    last = after (Global d.global) (path_of d.steps) d.key at refl (key_no_nodes T f d found) long nodes

    go : (b : Bool) → writes (slot_of d) change ≡ b → option_map_or (λ body. value_of N c (ns ++ at) body) (if b then Some (change.now (slot_of d)) else None) (c f at) ≡ cell_in final d at
    go true was = last
    go false was =
        own ∙ sym (before (Global d.global) (path_of d.steps) d.key at refl (key_no_nodes T f d found) long nodes)
        ∙ ap (value_of N c (ns ++ at)) (sym (unwritten (slot_of d) refl (some_or_none (change.first (slot_of d)) was))) ∙ last

-- The cells of families are cells

module _ (N : ℕ) where
  every_node : (F : ℕ → Type 0) (first count : ℕ) → Each F (nodes_from first count) → (n : ℕ) → first ≤ n → n < first + count → F n
  every_node F first zero e n low high = absurd (omega (arith, low, high))
  every_node F first (suc count) (p, e) n low high = go (every_node F (suc first) count e n) (nat_eq first n) refl
    where
      go : (suc first ≤ n → n < suc first + count → F n) → (b : Bool) → nat_eq first n ≡ b → F n
      go rest true was = subst F (grind (arith, was)) p
      go rest false was = rest (grind (arith, low, was)) (omega (arith, high))

  abbrev Reaches : (Value → Type 0) → Option Value → Type 0
  Reaches R None = (n : ℕ) → is_node N n ≡ true → R (v.Node n)
  Reaches R (Some w) = R w

  reach_value : (u : Simple) (R : Value → Type 0) → Each R (values N u) → Each (λ w. Reaches R (fixed w)) (values 1 u)
  reach_value simple.Truth R (a, (b, e)) = (a, (b, tt))
  reach_value (simple.Range low high) R e = each_map (λ w. Reaches R (fixed w)) v.Number _ (each_under R v.Number _ e)
  reach_value (simple.Listed kind count) R e = each_map (λ w. Reaches R (fixed w)) (λ index. v.Member kind index) (nodes_from 0 count) (each_under R (λ index. v.Member kind index) (nodes_from 0 count) e)
  reach_value (simple.Scalarset kind count) R e = each_map (λ w. Reaches R (fixed w)) (λ index. v.Member kind index) (nodes_from 0 count) (each_under R (λ index. v.Member kind index) (nodes_from 0 count) e)
  reach_value simple.Node R e = ((λ n is. every_node (λ n. R (v.Node n)) 1 N (each_under R v.Node (nodes N) e) n (grind (arith, is)) (grind (arith, is))), tt)

  each_swapped : {X : Type 0} (H : ℕ → Type 0) (F : ℕ → X → Type 0) (xs : List X) → ((n : ℕ) → H n → Each (F n) xs) → Each (λ y. (n : ℕ) → H n → F n y) xs
  each_swapped H F [] all = tt
  each_swapped H F (y ∷ ys) all = ((λ n h. (all n h).0), each_swapped H F ys (λ n h. (all n h).1))

  abbrev Filled : (List Value → Type 0) → Key → Type 0
  Filled Q key = (ns : List ℕ) → length ns ≡ holes key → list_all (is_node N) ns ≡ true → Q (at_nodes key ns)

  filled_more : (Q : List Value → Type 0) (key : Key) → ((n : ℕ) → is_node N n ≡ true → Filled (λ vs. Q (v.Node n ∷ vs)) key) → Filled Q (None ∷ key)
  filled_more Q key all [] long are = absurd (omega (arith, long))
  filled_more Q key all (n ∷ ns) long are = let (one, rest) = and_parts (is_node N n) (list_all (is_node N) ns) are in all n one ns (omega (arith, long)) rest

  reach_rest : (us : List Simple) → ((Q : List Value → Type 0) → Each Q (choices N us) → Each (λ at. Filled Q (map fixed at)) (choices 1 us)) → (Q : List Value → Type 0) (o : Option Value) → Reaches (λ x. Each (λ vs. Q (x ∷ vs)) (choices N us)) o → Each (λ vs. Filled Q (o ∷ map fixed vs)) (choices 1 us)
  reach_rest us inner Q (Some w) r = inner (λ vs. Q (w ∷ vs)) r
  reach_rest us inner Q None r =
      each_weaker (λ vs. (n : ℕ) → is_node N n ≡ true → Filled (λ rest. Q (v.Node n ∷ rest)) (map fixed vs)) (λ vs. Filled Q (None ∷ map fixed vs)) (λ vs all. filled_more Q (map fixed vs) all) (choices 1 us)
      (each_swapped (λ n. is_node N n ≡ true) (λ n vs. Filled (λ rest. Q (v.Node n ∷ rest)) (map fixed vs)) (choices 1 us) (λ n is. inner (λ rest. Q (v.Node n ∷ rest)) (r n is)))

  reach_choice : (us : List Simple) (Q : List Value → Type 0) → Each Q (choices N us) → Each (λ at. Filled Q (map fixed at)) (choices 1 us)
  reach_choice [] Q (q, e) = ((λ ns long are. q), tt)
  reach_choice (u ∷ us) Q e =
      each_flat (λ at. Filled Q (map fixed at)) (λ w. map (λ vs. w ∷ vs) (choices 1 us)) (values 1 u)
      (each_weaker (λ w. Reaches (λ x. Each (λ vs. Q (x ∷ vs)) (choices N us)) (fixed w)) (λ w. Each (λ at. Filled Q (map fixed at)) (map (λ vs. w ∷ vs) (choices 1 us)))
      (λ w r. each_map (λ at. Filled Q (map fixed at)) (λ vs. w ∷ vs) (choices 1 us) (reach_rest us (reach_choice us) Q (fixed w) r)) (values 1 u)
      (reach_value u (λ x. Each (λ vs. Q (x ∷ vs)) (choices N us))
      (each_weaker (λ x. Each Q (map (λ vs. x ∷ vs) (choices N us))) (λ x. Each (λ vs. Q (x ∷ vs)) (choices N us)) (λ x all. each_under Q (λ vs. x ∷ vs) (choices N us) all) (values N u)
      (each_flat_parts Q (λ x. map (λ vs. x ∷ vs) (choices N us)) (values N u) e))))

  -- a fact of each cell is one of each family at all nodes
  abbrev pub OfFamily : (Cell → Type 0) → CellsOf → Type 0
  OfFamily P d = Filled (λ at. P (record { global = d.global; way = record { steps = d.steps; leaf = d.of }; at = at })) d.key

  reach_from : (P : Cell → Type 0) (k : ℕ) (vs : List Variable) → Each P (cells_from N k vs) → Each (λ c. OfFamily P (family_of c)) (cells_from 1 k vs)
  reach_from P k [] e = tt
  reach_from P k (w ∷ vs) e =
      let (a, b) = each_parts P (flat_map (cells_on N k) (ways w.of)) (cells_from N (suc k) vs) e in
      each_joined (λ c. OfFamily P (family_of c)) (flat_map (cells_on 1 k) (ways w.of)) (cells_from 1 (suc k) vs)
      (each_flat (λ c. OfFamily P (family_of c)) (cells_on 1 k) (ways w.of)
      (each_weaker (λ way. Each P (cells_on N k way)) (λ way. Each (λ c. OfFamily P (family_of c)) (cells_on 1 k way))
      (λ way all. each_map (λ c. OfFamily P (family_of c)) (λ at. record { global = k; way = way; at = at }) (choices 1 (axes_of way.steps)) (reach_choice (axes_of way.steps) (λ at. P (record { global = k; way = way; at = at })) (each_under P (λ at. record { global = k; way = way; at = at }) (choices N (axes_of way.steps)) all)))
      (ways w.of) (each_flat_parts P (cells_on N k) (ways w.of) a)))
      (reach_from P (suc k) vs b)

  pub each_family : (T : Typed) (P : Cell → Type 0) → Each P (cells N T) → Each (OfFamily P) (families_of T)
  each_family T P e = each_map (OfFamily P) family_of (cells 1 T) (reach_from P 0 T.globals e)

  pub each_found : {X : Type 0} (P : X → Type 0) (xs : List X) → ((k : ℕ) (y : X) → slice_get xs k ≡ Some y → P y) → Each P xs
  each_found P [] f = tt
  each_found P (y ∷ ys) f = (f 0 y refl, each_found P ys (λ k z found. f (suc k) z found))

  -- a state has the values of its store at the cells of families
  pub state_value : StatesHaveValues → (T : Typed) (now : Store) (f : ℕ) (d : CellsOf) (at : List ℕ) → slice_get (families_of T) f ≡ Some d → length at ≡ holes d.key → list_all (is_node N) at ≡ true
      → cell_in (cells_of N T (state_of N T now)) d at ≡ cell_in now d at
  state_value values_are T now f d at found long are =
      each_at (OfFamily (λ c. cells_of N T (state_of N T now) (Global c.global) (path_of c.way.steps) c.at ≡ value_in now c)) (families_of T)
      (each_family T (λ c. cells_of N T (state_of N T now) (Global c.global) (path_of c.way.steps) c.at ≡ value_in now c) (each_found (λ c. cells_of N T (state_of N T now) (Global c.global) (path_of c.way.steps) c.at ≡ value_in now c) (cells N T) (λ k c there. values_are N T now k c there)))
      f d found at long are
