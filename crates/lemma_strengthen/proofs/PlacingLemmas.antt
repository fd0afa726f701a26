-- Frames whose variables are picked by the terms of a list, and placing these.
use Rattle.std.proofs.Common.{◌≡◌, ℕ, zero, suc, ◌+◌, ◌-◌, ◌<◌, ◌≤◌, Bool, true, false, List, [], ◌∷◌, ◌++◌, length, Option, Some, None, refl, sym, ap, ◌∙◌, subst, arith}
use Rattle.std.specs.Prelude.{nat_lt, slice_get}
use Rattle.std.specs.Option.{option_map, option_map_or}
use Rattle.std.proofs.lemmas.Option.{slice_get-map, slice_get_within}
use Rattle.std.proofs.lemmas.List.{length-map}
use Rattle.term_core.specs.declared.value.Value.TheVariants as v
use Rattle.term_core.specs.declared.term.Term as t
use Rattle.term_core.specs.declared.term.Term.{Term}
use Rattle.term_core.specs.Nodes.{nodes_from}
use Rattle.term_core.specs.Meaning.{Cells, value_of}
use Rattle.term_core.specs.Substitution.{placed}
use Rattle.term_core.specs.Laws.{PlacingBinds}
use Rattle.lemma_strengthen.specs.Opening.{variables}
use Rattle.lemma_strengthen.proofs.TermLemmas.{value-Var, get_first, get_past, length-one_more}

-- the terms of the list stand for these nodes in a frame
abbrev pub Picks : ℕ → Cells → List ℕ → List Term → List ℕ → Type 0
Picks N c frame vs ns = (length ns ≡ length vs) × ((k : ℕ) (by : Term) (n : ℕ) → slice_get vs k ≡ Some by → slice_get ns k ≡ Some n → value_of N c frame by ≡ v.Node n)

-- a term in which they are placed has the value of the term in the frame of the nodes
pub placed_is : PlacingBinds → (N : ℕ) (c : Cells) (to : ℕ) (frame : List ℕ) (vs : List Term) (ns : List ℕ) (x : Term) → length frame ≡ to → Picks N c frame vs ns → value_of N c frame (placed to vs x) ≡ value_of N c ns x
placed_is binds N c to frame vs ns x long picks = binds N c frame ns to vs x long picks.0 (λ k by n o e f. picks.1 k by n e f)

pub variable_node : (N : ℕ) (c : Cells) (frame : List ℕ) (k n : ℕ) → slice_get frame k ≡ Some n → value_of N c frame (t.Var k) ≡ v.Node n
variable_node N c frame k n at = value-Var N c frame k ∙ ap (λ o. option_map_or v.Node o v.Undefined) at

one_of : {X : Type 0} (x y : X) (k : ℕ) → slice_get (x ∷ []) k ≡ Some y → x ≡ y
one_of x y zero e = cc
one_of x y (suc k) e = cc

-- one variable more
pub picks_more : (N : ℕ) (c : Cells) (frame : List ℕ) (vs : List Term) (ns : List ℕ) (next n : ℕ) → Picks N c frame vs ns → slice_get frame next ≡ Some n → Picks N c frame (vs ++ t.Var next ∷ []) (ns ++ n ∷ [])
picks_more N c frame vs ns next n picks at = (length-one_more ns n ∙ ap suc picks.0 ∙ sym (length-one_more vs (t.Var next)), λ k by m e f. go k by m e f (nat_lt k (length vs)) refl)
  where
    go : (k : ℕ) (by : Term) (m : ℕ) → slice_get (vs ++ t.Var next ∷ []) k ≡ Some by → slice_get (ns ++ n ∷ []) k ≡ Some m → (b : Bool) → nat_lt k (length vs) ≡ b → value_of N c frame by ≡ v.Node m
    go k by m e f true was =
        let h : k < length vs = grind (arith, was) in
        picks.1 k by m (sym (get_first vs (t.Var next ∷ []) k h) ∙ e) (sym (get_first ns (n ∷ []) k (subst (λ l. k < l) (sym picks.0) h)) ∙ f)
    go k by m e f false was =
        let h : length vs ≤ k = grind (arith, was) in
        let this : t.Var next ≡ by = one_of (t.Var next) by (k - length vs) (sym (get_past vs (t.Var next ∷ []) k h) ∙ e) in
        let node : n ≡ m = one_of n m (k - length ns) (sym (get_past ns (n ∷ []) k (subst (λ l. l ≤ k) (sym picks.0) h)) ∙ f) in
        ap (value_of N c frame) (sym this) ∙ variable_node N c frame next n at ∙ ap v.Node node

counted : (first count k i : ℕ) → slice_get (nodes_from first count) k ≡ Some i → i ≡ first + k
counted first zero k i e = cc
counted first (suc count) zero i e = let same : first ≡ i = cc in omega (arith, same)
counted first (suc count) (suc k) i e = let r = counted (suc first) count k i e in omega (arith, r)

length-counted : (first count : ℕ) → length (nodes_from first count) ≡ count
length-counted first zero = refl
length-counted first (suc count) = ap suc (length-counted (suc first) count)

-- a front of a frame, picked by the variables from 0 on
pub front_picks : (N : ℕ) (c : Cells) (front rest : List ℕ) → Picks N c (front ++ rest) (variables (length front)) front
front_picks N c front rest = (sym (length-map (nodes_from 0 (length front)) (λ k. t.Var k) ∙ length-counted 0 (length front)), λ k by n e f. at k by n f (slice_get (nodes_from 0 (length front)) k) refl (sym (slice_get-map (λ k. t.Var k) (nodes_from 0 (length front)) k) ∙ e))
  where
    some_is : {a b : Term} → Some a ≡ Some b → a ≡ b
    some_is e = cc

    at : (k : ℕ) (by : Term) (n : ℕ) → slice_get front k ≡ Some n → (o : Option ℕ) → slice_get (nodes_from 0 (length front)) k ≡ o → option_map (λ j. t.Var j) o ≡ Some by → value_of N c (front ++ rest) by ≡ v.Node n
    at k by n f None was e = cc
    at k by n f (Some i) was e =
        let here : i ≡ k = counted 0 (length front) k i was ∙ omega arith in
        ap (value_of N c (front ++ rest)) (sym (some_is e) ∙ ap (λ j. t.Var j) here)
        ∙ variable_node N c (front ++ rest) k n (get_first front rest k (slice_get_within front k n f) ∙ f)
