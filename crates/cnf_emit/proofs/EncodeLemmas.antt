-- How one more node keeps what has been emitted.
use Rattle.std.proofs.Common.{◌≡◌, ℕ, ◌+◌, ◌<◌, ◌≤◌, ◌&&◌, Bool, ◌||◌, true, false, not, zero, suc, List, [], ◌∷◌, ◌++◌, length, get_or, map, cond, refl, sym, ◌∙◌, ap, subst, inl, inr, arith}
use Rattle.std.specs.Prelude.{All}
use Rattle.std.proofs.lemmas.Bool.{cases_lt, and_parts, and_from, both_ways}
use Rattle.std.proofs.lemmas.List.{length-append, length-map, get_or_append_left, get_or-map}
use Rattle.std.proofs.lemmas.List.Folds.{list_all-append}
use Rattle.std.proofs.lemmas.List.Elements.{All-append, All-weaker}
use Rattle.std.proofs.Math.Seq.{get_or-append_seam}
use Rattle.clause_core.specs.declared.literal.Lit.{Lit}
use Rattle.clause_core.specs.Literal.{variable_of, positive, negative, opposite}
use Rattle.clause_core.specs.Truth.{value_of, literal_true, clause_true, all_true}
use Rattle.clause_core.specs.Formula.{IsInRange, AreInRange}
use Rattle.circuit_core.specs.declared.edge.Edge.{Edge}
use Rattle.circuit_core.specs.declared.edge.Gate.{Gate}
use Rattle.circuit_core.specs.declared.edge.Gate.TheVariants.{Input, And}
use Rattle.circuit_core.specs.Edges.{node_of, is_negated}
use Rattle.circuit_core.specs.Network.{Network, IsGateAt, IsNetwork}
use Rattle.circuit_core.specs.Value.{node_value, edge_value, gate_value, SameBelow}
use Rattle.cnf_emit.specs.Reach.{is_marked, IsMarked, HasMarks, IsClosedFrom}
use Rattle.cnf_emit.specs.Drafts.{Sketch, node_lit, edge_lit, with_node, with_variable, with_defined, false_clauses, and_clauses, with_constant, with_gate}
use Rattle.cnf_emit.specs.Encoding.{Extends, Encodes}
use Rattle.cnf_emit.proofs.TruthLemmas.{positive_true, negative_true, opposite_true, variable_of-positive, variable_of-negative, variable_of-opposite, all_same, literals_same, bits, length-bits, bits_value, and_clauses_say, and_clauses_hold}

-- nothing has been emitted
pub nothing_encodes : (c : Network) (marks : List Bool) → Encodes c marks (record { variables = c.inputs; clauses = []; lits = [] })
nothing_encodes c marks = record {
  inputs = omega arith;
  range = λ k d h. absurd (omega arith);
  extends = λ x. (bits x c.inputs, length-bits x c.inputs, bits_value x c.inputs, refl);
  unique = λ a b p q same. same;
  placed = λ n h m. absurd (omega arith);
  values = λ a p n h m. absurd (omega arith);
}

-- both parts of a list of clauses are satisfied
both_true : (a : List Bool) (cs ds : List (List Lit)) → all_true a (cs ++ ds) ≡ true → (all_true a cs ≡ true) × (all_true a ds ≡ true)
both_true a cs ds h = and_parts (all_true a cs) (all_true a ds) (sym (list_all-append (clause_true a) cs ds) ∙ h)

-- an assignment with the value of one more variable
longer_below : (a : List Bool) (v : Bool) → SameBelow (length a) (value_of a) (value_of (a ++ v ∷ []))
longer_below a v k h = sym (get_or_append_left a (v ∷ []) false k h)

-- One more variable, whose value the clauses ds give by a function of the earlier ones.
extended : (s : Sketch) (ds : List (List Lit)) (f : List Bool → Bool) (inputs : ℕ) (x : ℕ → Bool) → inputs ≤ s.variables → AreInRange s.variables s.clauses
    → ((a : List Bool) → value_of a s.variables ≡ f a → all_true a ds ≡ true)
    → ((a b : List Bool) → SameBelow s.variables (value_of a) (value_of b) → f a ≡ f b)
    → Extends s.variables s.clauses inputs x → Extends (s.variables + 1) (s.clauses ++ ds) inputs x
extended s ds f inputs x few range back same w =
    let a : List Bool = w.0 in
    let b : List Bool = a ++ f a ∷ [] in
    let below : SameBelow s.variables (value_of a) (value_of b) = subst (λ n. SameBelow n (value_of a) (value_of b)) w.1 (longer_below a (f a)) in
    let at : value_of b s.variables ≡ f a = ap (λ n. get_or b n false) (sym w.1) ∙ get_or-append_seam a (f a) [] false in (
      b,
      length-append a (f a ∷ []) ∙ ap (λ n. n + 1) w.1,
      λ k h. w.2 k h ∙ below k (omega arith),
      list_all-append (clause_true b) s.clauses ds
          ∙ and_from (all_true b s.clauses) (all_true b ds) (sym (all_same s.variables a b s.clauses below range) ∙ w.3) (back b (at ∙ same a b below)),
    )

pub defined_more : (c : Network) (marks : List Bool) (s : Sketch) (ds : List (List Lit)) (f : List Bool → Bool) → Encodes c marks s → AreInRange (s.variables + 1) ds
    → ((a : List Bool) → all_true a ds ≡ true → value_of a s.variables ≡ f a)
    → ((a : List Bool) → value_of a s.variables ≡ f a → all_true a ds ≡ true)
    → ((a b : List Bool) → SameBelow s.variables (value_of a) (value_of b) → f a ≡ f b)
    → Encodes c marks (with_variable s ds)
defined_more c marks s ds f e more forth back same = record {
  inputs = omega (arith, e.inputs);
  range = All-append (IsInRange (s.variables + 1)) s.clauses ds
      (All-weaker (IsInRange s.variables) (IsInRange (s.variables + 1)) (λ k. All-weaker (λ l. variable_of l < s.variables) (λ l. variable_of l < s.variables + 1) (λ l h. omega arith) k) s.clauses e.range)
      more;
  extends = λ x. extended s ds f c.inputs x e.inputs e.range back same (e.extends x);
  unique = λ a b p q agree k h.
      let pa : (all_true a s.clauses ≡ true) × (all_true a ds ≡ true) = both_true a s.clauses ds p in
      let pb : (all_true b s.clauses ≡ true) × (all_true b ds ≡ true) = both_true b s.clauses ds q in
      let below : SameBelow s.variables (value_of a) (value_of b) = e.unique a b pa.0 pb.0 agree in
      elim (cases_lt k s.variables) [
        | inl l ↦ below k l
        | inr g ↦
            let last : k ≡ s.variables = omega arith in
            ap (value_of a) last ∙ forth a pa.1 ∙ same a b below ∙ sym (forth b pb.1) ∙ ap (value_of b) (sym last)
      ];
  placed = λ n h m. omega (arith, e.placed n h m);
  values = λ a p n h m. e.values a (both_true a s.clauses ds p).0 n h m;
}

-- One more node, that has a variable with its value.
pub placed_more : (c : Network) (marks : List Bool) (s : Sketch) (v : ℕ) → Encodes c marks s
    → (is_marked marks (length s.lits) ≡ true → (v < s.variables) × ((a : List Bool) → all_true a s.clauses ≡ true → value_of a v ≡ node_value c (value_of a) (length s.lits)))
    → Encodes c marks (with_node s v)
placed_more c marks s v e new = record {
  inputs = e.inputs;
  range = e.range;
  extends = e.extends;
  unique = e.unique;
  placed = λ n h m. elim (cases_lt n (length s.lits)) [
    | inl l ↦ subst (λ k. variable_of k < s.variables) (sym (get_or_append_left s.lits (positive v ∷ []) (positive 0) n l)) (e.placed n l m)
    | inr g ↦
        let last : length s.lits ≡ n = omega (arith, length-append s.lits (positive v ∷ [])) in
        subst (λ k. variable_of k < s.variables) (sym (get_or-append_seam s.lits (positive v) [] (positive 0)) ∙ ap (λ k. get_or (s.lits ++ positive v ∷ []) k (positive 0)) last)
        (omega (arith, (new (ap (is_marked marks) last ∙ m)).0, variable_of-positive v))
  ];
  values = λ a p n h m. elim (cases_lt n (length s.lits)) [
    | inl l ↦ ap (literal_true a) (get_or_append_left s.lits (positive v ∷ []) (positive 0) n l) ∙ e.values a p n l m
    | inr g ↦
        let last : length s.lits ≡ n = omega (arith, length-append s.lits (positive v ∷ [])) in
        ap (λ k. literal_true a (get_or (s.lits ++ positive v ∷ []) k (positive 0))) (sym last)
        ∙ ap (literal_true a) (get_or-append_seam s.lits (positive v) [] (positive 0))
        ∙ positive_true a v ∙ (new (ap (is_marked marks) last ∙ m)).1 a p ∙ ap (node_value c (value_of a)) last
  ];
}

-- one more node, that has a new variable
pub defined_node : (c : Network) (marks : List Bool) (s : Sketch) (ds : List (List Lit)) (f : List Bool → Bool) → Encodes c marks s → AreInRange (s.variables + 1) ds
    → ((a : List Bool) → all_true a ds ≡ true → value_of a s.variables ≡ f a)
    → ((a : List Bool) → value_of a s.variables ≡ f a → all_true a ds ≡ true)
    → ((a b : List Bool) → SameBelow s.variables (value_of a) (value_of b) → f a ≡ f b)
    → ((a : List Bool) → all_true a s.clauses ≡ true → f a ≡ node_value c (value_of a) (length s.lits))
    → Encodes c marks (with_defined s ds)
defined_node c marks s ds f e more forth back same value =
    placed_more c marks (with_variable s ds) s.variables (defined_more c marks s ds f e more forth back same)
    (λ m. (omega arith, λ a p. forth a (both_true a s.clauses ds p).1 ∙ value a (both_true a s.clauses ds p).0))

each_of_one : {X : Type 0} (P : X → Type 0) (x : X) → P x → All P (x ∷ [])
each_of_one P x h zero d l = h
each_of_one P x h (suc k) d l = absurd (omega arith)

each_of_two : {X : Type 0} (P : X → Type 0) (x y : X) → P x → P y → All P (x ∷ y ∷ [])
each_of_two P x y h i = All-append P (x ∷ []) (y ∷ []) (each_of_one P x h) (each_of_one P y i)

each_of_three : {X : Type 0} (P : X → Type 0) (x y z : X) → P x → P y → P z → All P (x ∷ y ∷ z ∷ [])
each_of_three P x y z h i j = All-append P (x ∷ []) (y ∷ z ∷ []) (each_of_one P x h) (each_of_two P y z i j)

-- the constant
false_says : (a : List Bool) (v : ℕ) → all_true a (false_clauses v) ≡ true → value_of a v ≡ false
false_says a v h = go (value_of a v) (ap (λ b. (b || false) && true) (sym (negative_true a v)) ∙ h)
  where
    go : (b : Bool) → ((not b || false) && true) ≡ true → b ≡ false
    go true h = sym h
    go false h = refl

false_holds : (a : List Bool) (v : ℕ) → value_of a v ≡ false → all_true a (false_clauses v) ≡ true
false_holds a v h = ap (λ b. (b || false) && true) (negative_true a v ∙ ap not h)

pub constant_more : (c : Network) (marks : List Bool) (s : Sketch) (b : Bool) → Encodes c marks s → length s.lits ≡ 0 → ((x : ℕ → Bool) → node_value c x 0 ≡ false) → is_marked marks 0 ≡ b → Encodes c marks (with_constant s b)
constant_more c marks s true e none value m =
    defined_node c marks s (false_clauses s.variables) (λ a. false) e
    (each_of_one (IsInRange (s.variables + 1)) (negative s.variables ∷ []) (each_of_one (λ l. variable_of l < s.variables + 1) (negative s.variables) (omega (arith, variable_of-negative s.variables))))
    (λ a. false_says a s.variables) (λ a. false_holds a s.variables) (λ a b same. refl)
    (λ a p. sym (value (value_of a)) ∙ ap (node_value c (value_of a)) (sym none))
constant_more c marks s false e none value m =
    placed_more c marks s 0 e (λ t. absurd (both_ways (is_marked marks 0) m (ap (is_marked marks) (sym none) ∙ t)))

-- the literal of an edge of a marked node
edge_by_node : (c : Network) (x : ℕ → Bool) (e : Edge) → edge_value c x e ≡ cond (is_negated e) (not (node_value c x (node_of e))) (node_value c x (node_of e))
unfolding edge_value node_value
edge_by_node c x e = refl

signed_true : (a : List Bool) (l : Lit) (b v : Bool) → literal_true a l ≡ v → literal_true a (cond b (opposite l) l) ≡ cond b (not v) v
signed_true a l true v h = opposite_true a l ∙ ap not h
signed_true a l false v h = h

signed_variable : (l : Lit) (b : Bool) (n : ℕ) → variable_of l < n → variable_of (cond b (opposite l) l) < n
signed_variable l true n h = omega (arith, variable_of-opposite l)
signed_variable l false n h = h

pub edge_true : (c : Network) (marks : List Bool) (s : Sketch) (e : Edge) → Encodes c marks s → node_of e < length s.lits → IsMarked marks e → (a : List Bool) → all_true a s.clauses ≡ true → literal_true a (edge_lit s.lits e) ≡ edge_value c (value_of a) e
edge_true c marks s e enc h m a p =
    signed_true a (node_lit s.lits (node_of e)) (is_negated e) (node_value c (value_of a) (node_of e)) (enc.values a p (node_of e) h m)
    ∙ sym (edge_by_node c (value_of a) e)

pub edge_in_range : (c : Network) (marks : List Bool) (s : Sketch) (e : Edge) → Encodes c marks s → node_of e < length s.lits → IsMarked marks e → variable_of (edge_lit s.lits e) < s.variables
edge_in_range c marks s e enc h m = signed_variable (node_lit s.lits (node_of e)) (is_negated e) s.variables (enc.placed (node_of e) h m)

-- a conjunction
and_more : (c : Network) (marks : List Bool) (s : Sketch) (a b : Edge) → Encodes c marks s → node_of a < length s.lits → node_of b < length s.lits → IsMarked marks a → IsMarked marks b
    → ((x : ℕ → Bool) → node_value c x (length s.lits) ≡ (edge_value c x a && edge_value c x b))
    → Encodes c marks (with_defined s (and_clauses s.variables (edge_lit s.lits a) (edge_lit s.lits b)))
and_more c marks s a b e ha hb ma mb value =
    let v : ℕ = s.variables in
    let l : Lit = edge_lit s.lits a in
    let m : Lit = edge_lit s.lits b in
    let hl : variable_of l < v = edge_in_range c marks s a e ha ma in
    let hm : variable_of m < v = edge_in_range c marks s b e hb mb in
    let P : Lit → Type 0 = λ k. variable_of k < v + 1 in
    let pl : P l = omega arith in
    let pm : P m = omega arith in
    let pv : P (positive v) = omega (arith, variable_of-positive v) in
    let nv : P (negative v) = omega (arith, variable_of-negative v) in
    let ol : P (opposite l) = omega (arith, variable_of-opposite l) in
    let om : P (opposite m) = omega (arith, variable_of-opposite m) in
    defined_node c marks s (and_clauses v l m) (λ w. literal_true w l && literal_true w m) e
    (each_of_three (IsInRange (v + 1)) (negative v ∷ l ∷ []) (negative v ∷ m ∷ []) (positive v ∷ opposite l ∷ opposite m ∷ [])
    (each_of_two P (negative v) l nv pl) (each_of_two P (negative v) m nv pm) (each_of_three P (positive v) (opposite l) (opposite m) pv ol om))
    (λ w. and_clauses_say w v l m) (λ w. and_clauses_hold w v l m) (λ w z same. literals_same v w z l m same hl hm)
    (λ w p. ap (λ k. k && literal_true w m) (edge_true c marks s a e ha ma w p)
    ∙ ap (λ k. edge_value c (value_of w) a && k) (edge_true c marks s b e hb mb w p)
    ∙ sym (value (value_of w)))

-- a gate
pub gate_more : (c : Network) (marks : List Bool) (s : Sketch) (n : ℕ) (b : Bool) (g : Gate) → Encodes c marks s → length s.lits ≡ n + 1 → IsGateAt c.inputs n g
    → ((x : ℕ → Bool) → node_value c x (n + 1) ≡ gate_value c x g) → (is_marked marks (n + 1) ≡ true → HasMarks marks g) → is_marked marks (n + 1) ≡ b → Encodes c marks (with_gate s b g)
gate_more c marks s n false g e long at value has m =
    placed_more c marks s 0 e (λ t. absurd (both_ways (is_marked marks (n + 1)) m (ap (is_marked marks) (sym long) ∙ t)))
gate_more c marks s n true (Input k) e long at value has m =
    placed_more c marks s k e (λ t. (omega (arith, e.inputs), λ a p. sym (ap (node_value c (value_of a)) long ∙ value (value_of a))))
gate_more c marks s n true (And a b) e long at value has m =
    and_more c marks s a b e (omega (arith, at.0)) (omega (arith, at.1)) (has m).0 (has m).1
    (λ x. ap (node_value c x) long ∙ value x)

-- the number of literals
pub length-with_constant : (s : Sketch) (b : Bool) → length (with_constant s b).lits ≡ length s.lits + 1
length-with_constant s true = length-append s.lits (positive s.variables ∷ [])
length-with_constant s false = length-append s.lits (positive 0 ∷ [])

pub length-with_gate : (s : Sketch) (b : Bool) (g : Gate) → length (with_gate s b g).lits ≡ length s.lits + 1
length-with_gate s false g = length-append s.lits (positive 0 ∷ [])
length-with_gate s true (Input k) = length-append s.lits (positive k ∷ [])
length-with_gate s true (And a b) = length-append s.lits (positive s.variables ∷ [])

-- the literals of roots
pub roots_true : (c : Network) (marks : List Bool) (s : Sketch) (roots : List Edge) → Encodes c marks s → All (λ e. node_of e < length s.lits) roots → All (IsMarked marks) roots
    → (a : List Bool) → all_true a s.clauses ≡ true → map (literal_true a) (map (edge_lit s.lits) roots) ≡ map (edge_value c (value_of a)) roots
roots_true c marks s [] e inside all a p = refl
roots_true c marks s (r ∷ roots) e inside all a p =
    ap (λ v. v ∷ map (literal_true a) (map (edge_lit s.lits) roots)) (edge_true c marks s r e (inside 0 r (omega arith)) (all 0 r (omega arith)) a p)
    ∙ ap (λ vs. edge_value c (value_of a) r ∷ vs) (roots_true c marks s roots e (λ k d h. inside (suc k) d (omega arith)) (λ k d h. all (suc k) d (omega arith)) a p)

pub roots_in_range : (c : Network) (marks : List Bool) (s : Sketch) (roots : List Edge) → Encodes c marks s → All (λ e. node_of e < length s.lits) roots → All (IsMarked marks) roots → IsInRange s.variables (map (edge_lit s.lits) roots)
roots_in_range c marks s roots e inside all k d h =
    let short : k < length roots = omega (arith, length-map roots (edge_lit s.lits)) in
    let r : Edge = get_or roots k (record { code = 0 }) in
    subst (λ l. variable_of l < s.variables) (sym (get_or-map (edge_lit s.lits) roots k (record { code = 0 }) d short))
    (edge_in_range c marks s r e (inside k (record { code = 0 }) short) (all k (record { code = 0 }) short))

-- the first node, and the next one, as code emits them
pub first_node : (c : Network) (marks : List Bool) (inputs : ℕ) (made new : Sketch) → inputs ≡ c.inputs → made ≡ record { variables = inputs; clauses = []; lits = [] }
    → new ≡ with_constant made (get_or marks 0 false) → ((x : ℕ → Bool) → node_value c x 0 ≡ false) → Encodes c marks new × (length new.lits ≡ 1)
first_node c marks inputs made new few start is value =
    let empty : Sketch = record { variables = c.inputs; clauses = []; lits = [] } in
    let made_is : made ≡ empty = start ∙ ap (λ n. let s : Sketch = record { variables = n; clauses = []; lits = [] } in s) few in
    let new_is : new ≡ with_constant empty (get_or marks 0 false) = is ∙ ap (λ s. with_constant s (get_or marks 0 false)) made_is in (
      subst (Encodes c marks) (sym new_is) (constant_more c marks empty (get_or marks 0 false) (nothing_encodes c marks) refl value refl),
      ap (λ (s : Sketch). length s.lits) new_is ∙ length-with_constant empty (get_or marks 0 false) ∙ omega arith,
    )

pub next_node : (c : Network) (marks : List Bool) (gates : List Gate) (i : ℕ) (d : Gate) (old new : Sketch) → gates ≡ c.gates → IsNetwork c.inputs c.gates
    → ((x : ℕ → Bool) (n : ℕ) (d : Gate) → n < length c.gates → node_value c x (n + 1) ≡ gate_value c x (get_or c.gates n d))
    → IsClosedFrom 0 c.gates marks → i < length gates → Encodes c marks old → length old.lits ≡ i + 1
    → new ≡ with_gate old (get_or marks (i + 1) false) (get_or gates i d) → Encodes c marks new × (length new.lits ≡ i + 1 + 1)
next_node c marks gates i d old new same net values closed inside e long is =
    let g : Gate = get_or c.gates i d in
    let b : Bool = get_or marks (i + 1) false in
    let h : i < length c.gates = subst (λ gs. i < length gs) same inside in
    let new_is : new ≡ with_gate old b g = is ∙ ap (λ gs. with_gate old b (get_or gs i d)) same in (
      subst (Encodes c marks) (sym new_is) (gate_more c marks old i b g e long (net.earlier i d h) (λ x. values x i d h) (λ m. closed i d (omega arith) h m) refl),
      ap (λ (s : Sketch). length s.lits) new_is ∙ length-with_gate old b g ∙ ap (λ n. n + 1) long,
    )

-- What the formula of a draft says, as code gives it.
pub formula_count : (s : Sketch) (roots : List Edge) (lits : List Lit) → lits ≡ map (edge_lit s.lits) roots → length lits ≡ length roots
formula_count s roots lits made = ap length made ∙ length-map roots (edge_lit s.lits)

pub formula_range : (c : Network) (seen marks : List Bool) (s : Sketch) (roots : List Edge) (lits : List Lit) (n : ℕ) → seen ≡ marks → Encodes c seen s → All (λ e. node_of e < length s.lits) roots
    → All (IsMarked marks) roots → lits ≡ map (edge_lit s.lits) roots → n ≡ s.variables → IsInRange n lits
formula_range c seen marks s roots lits n same e inside all made few =
    subst (IsInRange n) (sym made) (subst (λ k. IsInRange k (map (edge_lit s.lits) roots)) (sym few)
    (roots_in_range c marks s roots (subst (λ m. Encodes c m s) same e) inside all))

pub formula_roots : (c : Network) (seen marks : List Bool) (s : Sketch) (roots : List Edge) (lits : List Lit) (cs : List (List Lit)) → seen ≡ marks → Encodes c seen s → All (λ e. node_of e < length s.lits) roots
    → All (IsMarked marks) roots → lits ≡ map (edge_lit s.lits) roots → cs ≡ s.clauses
    → (a : List Bool) → all_true a cs ≡ true → map (literal_true a) lits ≡ map (edge_value c (value_of a)) roots
formula_roots c seen marks s roots lits cs same e inside all made clauses a p =
    ap (map (literal_true a)) made
    ∙ roots_true c marks s roots (subst (λ m. Encodes c m s) same e) inside all a (ap (all_true a) (sym clauses) ∙ p)

pub formula_extends : (c : Network) (marks : List Bool) (s : Sketch) (n : ℕ) (cs : List (List Lit)) → Encodes c marks s → n ≡ s.variables → cs ≡ s.clauses → (x : ℕ → Bool) → Extends n cs c.inputs x
formula_extends c marks s n cs e few clauses x =
    subst (λ k. Extends k cs c.inputs x) (sym few) (subst (λ ds. Extends s.variables ds c.inputs x) (sym clauses) (e.extends x))
