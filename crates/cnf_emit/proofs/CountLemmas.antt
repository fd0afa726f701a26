-- How many variables and clauses there are.
use Rattle.std.proofs.Common.{◌≡◌, ℕ, ◌+◌, ◌*◌, ◌<◌, ◌≤◌, ◌&&◌, Bool, true, false, List, [], ◌∷◌, ◌++◌, length, get_or, take, refl, sym, ◌∙◌, ap, subst, arith}
use Rattle.std.proofs.lemmas.List.{take_more, take_all, length-take-le, length-append}
use Rattle.circuit_core.specs.declared.edge.Gate.{Gate}
use Rattle.circuit_core.specs.declared.edge.Gate.TheVariants.{Input, And}
use Rattle.cnf_emit.specs.Reach.{IsWithin, is_conjunction, one_if, conjunctions_in, own_variables, own_clauses}
use Rattle.cnf_emit.specs.Drafts.{Sketch, with_constant, with_gate, false_clauses, and_clauses, edge_lit}

conjunctions_in-push : (p : ℕ → Bool) (n m : ℕ) (gates : List Gate) (g : Gate) → m ≡ n + length gates → conjunctions_in p n (gates ++ g ∷ []) ≡ conjunctions_in p n gates + one_if (p m && is_conjunction g)
conjunctions_in-push p n m [] g e =
    let same : m ≡ n = omega arith in
    ap (λ k. one_if (p k && is_conjunction g) + 0) (sym same) ∙ omega arith
conjunctions_in-push p n m (h ∷ gates) g e =
    let more : conjunctions_in p (n + 1) (gates ++ g ∷ []) ≡ conjunctions_in p (n + 1) gates + one_if (p m && is_conjunction g) = conjunctions_in-push p (n + 1) m gates g (omega arith) in
    ap (λ k. one_if (p n && is_conjunction h) + k) more ∙ omega arith

own_variables_more : (p : ℕ → Bool) (gates : List Gate) (i : ℕ) (d : Gate) → i < length gates → own_variables p (take (i + 1) gates) ≡ own_variables p (take i gates) + one_if (p (i + 1) && is_conjunction (get_or gates i d))
unfolding own_variables
own_variables_more p gates i d h =
    let last : i + 1 ≡ 1 + length (take i gates) = omega (arith, length-take-le i gates (omega arith)) in
    let more : conjunctions_in p 1 (take i gates ++ get_or gates i d ∷ []) ≡ conjunctions_in p 1 (take i gates) + one_if (p (i + 1) && is_conjunction (get_or gates i d)) =
    conjunctions_in-push p 1 (i + 1) (take i gates) (get_or gates i d) last in
    ap (λ gs. one_if (p 0) + conjunctions_in p 1 gs) (take_more gates i d h) ∙ ap (λ k. one_if (p 0) + k) more ∙ omega arith

-- one more gate
gate_count : (s : Sketch) (b : Bool) (g : Gate) (q : Bool) → (b ≡ true → q ≡ true) → (with_gate s b g).variables ≤ s.variables + one_if (q && is_conjunction g)
gate_count s false g q h = omega arith
gate_count s true (Input k) q h = omega arith
gate_count s true (And a b) q h = let e : one_if (q && true) ≡ 1 = ap (λ v. one_if (v && true)) (h refl) in omega arith

pub next_count : (marks : List Bool) (gates : List Gate) (i inputs : ℕ) (d : Gate) (old new : Sketch) → i < length gates
    → ((p : ℕ → Bool) → IsWithin marks p → old.variables ≤ inputs + own_variables p (take i gates))
    → new ≡ with_gate old (get_or marks (i + 1) false) (get_or gates i d)
    → (p : ℕ → Bool) → IsWithin marks p → new.variables ≤ inputs + own_variables p (take (i + 1) gates)
next_count marks gates i inputs d old new h had is p within =
    let now : new.variables ≡ (with_gate old (get_or marks (i + 1) false) (get_or gates i d)).variables = ap (λ (s : Sketch). s.variables) is in
    omega (arith, had p within, gate_count old (get_or marks (i + 1) false) (get_or gates i d) (p (i + 1)) (within (i + 1)), own_variables_more p gates i d h)

-- the constant
constant_count : (s : Sketch) (b q : Bool) → (b ≡ true → q ≡ true) → (with_constant s b).variables ≤ s.variables + one_if q
constant_count s false q h = omega arith
constant_count s true q h = let e : one_if q ≡ 1 = ap one_if (h refl) in omega arith

pub first_count : (marks : List Bool) (gates : List Gate) (inputs few : ℕ) (made new : Sketch) → few ≡ inputs → made ≡ record { variables = few; clauses = []; lits = [] } → new ≡ with_constant made (get_or marks 0 false)
    → (p : ℕ → Bool) → IsWithin marks p → new.variables ≤ inputs + own_variables p (take 0 gates)
unfolding own_variables
first_count marks gates inputs few made new same start is p within =
    let now : new.variables ≡ (with_constant made (get_or marks 0 false)).variables = ap (λ (s : Sketch). s.variables) is in
    let was : made.variables ≡ few = ap (λ (s : Sketch). s.variables) start in
    omega (arith, constant_count made (get_or marks 0 false) (p 0) (within 0))

pub whole_count : (marks : List Bool) (gates all : List Gate) (i inputs n : ℕ) → gates ≡ all → length gates ≤ i → ((p : ℕ → Bool) → IsWithin marks p → n ≤ inputs + own_variables p (take i gates))
    → (p : ℕ → Bool) → IsWithin marks p → n ≤ inputs + own_variables p all
whole_count marks gates all i inputs n same past had p within =
    subst (λ gs. n ≤ inputs + own_variables p gs) (take_all i gates past ∙ same) (had p within)

-- one more gate's clauses
own_clauses_more : (p : ℕ → Bool) (gates : List Gate) (i : ℕ) (d : Gate) → i < length gates → own_clauses p (take (i + 1) gates) ≡ own_clauses p (take i gates) + 3 * one_if (p (i + 1) && is_conjunction (get_or gates i d))
unfolding own_clauses
own_clauses_more p gates i d h =
    let last : i + 1 ≡ 1 + length (take i gates) = omega (arith, length-take-le i gates (omega arith)) in
    let more : conjunctions_in p 1 (take i gates ++ get_or gates i d ∷ []) ≡ conjunctions_in p 1 (take i gates) + one_if (p (i + 1) && is_conjunction (get_or gates i d)) =
    conjunctions_in-push p 1 (i + 1) (take i gates) (get_or gates i d) last in
    ap (λ gs. one_if (p 0) + 3 * conjunctions_in p 1 gs) (take_more gates i d h) ∙ ap (λ k. one_if (p 0) + 3 * k) more ∙ omega arith

gate_length : (s : Sketch) (b : Bool) (g : Gate) (q : Bool) → (b ≡ true → q ≡ true) → length (with_gate s b g).clauses ≤ length s.clauses + 3 * one_if (q && is_conjunction g)
gate_length s false g q h = omega arith
gate_length s true (Input k) q h = omega arith
gate_length s true (And a b) q h =
    let e : one_if (q && true) ≡ 1 = ap (λ v. one_if (v && true)) (h refl) in
    let three = length-append s.clauses (and_clauses s.variables (edge_lit s.lits a) (edge_lit s.lits b)) in
    omega (arith, three)

pub next_length : (marks : List Bool) (gates : List Gate) (i : ℕ) (d : Gate) (old new : Sketch) → i < length gates
    → ((p : ℕ → Bool) → IsWithin marks p → length old.clauses ≤ own_clauses p (take i gates))
    → new ≡ with_gate old (get_or marks (i + 1) false) (get_or gates i d)
    → (p : ℕ → Bool) → IsWithin marks p → length new.clauses ≤ own_clauses p (take (i + 1) gates)
next_length marks gates i d old new h had is p within =
    let now : length new.clauses ≡ length (with_gate old (get_or marks (i + 1) false) (get_or gates i d)).clauses = ap (λ (s : Sketch). length s.clauses) is in
    omega (arith, had p within, gate_length old (get_or marks (i + 1) false) (get_or gates i d) (p (i + 1)) (within (i + 1)), own_clauses_more p gates i d h)

-- the constant's clause
constant_length : (s : Sketch) (b q : Bool) → (b ≡ true → q ≡ true) → length (with_constant s b).clauses ≤ length s.clauses + one_if q
constant_length s false q h = omega arith
constant_length s true q h =
    let e : one_if q ≡ 1 = ap one_if (h refl) in
    omega (arith, length-append s.clauses (false_clauses s.variables))

pub first_length : (marks : List Bool) (gates : List Gate) (few : ℕ) (made new : Sketch) → made ≡ record { variables = few; clauses = []; lits = [] } → new ≡ with_constant made (get_or marks 0 false)
    → (p : ℕ → Bool) → IsWithin marks p → length new.clauses ≤ own_clauses p (take 0 gates)
unfolding own_clauses
first_length marks gates few made new start is p within =
    let now : length new.clauses ≡ length (with_constant made (get_or marks 0 false)).clauses = ap (λ (s : Sketch). length s.clauses) is in
    let was : length made.clauses ≡ 0 = ap (λ (s : Sketch). length s.clauses) start in
    omega (arith, constant_length made (get_or marks 0 false) (p 0) (within 0))

pub whole_length : (marks : List Bool) (gates all : List Gate) (i n : ℕ) → gates ≡ all → length gates ≤ i → ((p : ℕ → Bool) → IsWithin marks p → n ≤ own_clauses p (take i gates))
    → (p : ℕ → Bool) → IsWithin marks p → n ≤ own_clauses p all
whole_length marks gates all i n same past had p within =
    subst (λ gs. n ≤ own_clauses p gs) (take_all i gates past ∙ same) (had p within)
