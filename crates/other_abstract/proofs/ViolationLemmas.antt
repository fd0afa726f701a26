-- The computed tests of formulas agree with their definitions.
use Rattle.std.proofs.Common.{◌≡◌, ℕ, zero, suc, Bool, true, false, not, ◌||◌, List, [], ◌∷◌, map, length, inl, inr, refl, sym, ap, ◌∙◌, arith}
use Rattle.std.specs.List.{list_all, list_any, flat_map}
use Rattle.std.proofs.lemmas.Bool.{and_parts, or_cases}
use Rattle.other_abstract.specs.declared.node.AbsNode.{AbsNode}
use Rattle.other_abstract.specs.Windows.{Window, is_in_window}
use Rattle.other_abstract.specs.May.{AbsCells, May, MayBe}
use Rattle.lemma_strengthen.specs.declared.formula.Formula.{Formula}
use Rattle.other_abstract.specs.declared.machine.AbstractMachine.{AbstractMachine}
use Rattle.other_abstract.specs.Machines.{window, Violates, MayHold}
use Rattle.other_abstract.specs.Tests.{window_nodes, lists_of, may, passes, may_fail, may_hold}
use Rattle.other_abstract.proofs.TestLemmas.{Passing, in_window, window_has, any_map, any_append, any_by, all_by, and_both, or_first, maybe, may_in, may_has, is_passes}

pub any_flat : {X Y : Type 0} (q : Y → Bool) (g : X → List Y) (xs : List X) → list_any q (flat_map g xs) ≡ list_any (λ x. list_any q (g x)) xs
any_flat q g [] = refl
any_flat q g (x ∷ xs) = any_append q (g x) (flat_map g xs) ∙ ap (λ b. list_any q (g x) || b) (any_flat q g xs)

abbrev AreIn : Window → ℕ → List AbsNode → Type 0
AreIn W count ns = (length ns ≡ count) × (list_all (is_in_window W) ns ≡ true)

pub list_in : (W : Window) (count : ℕ) (q : List AbsNode → Bool) → list_any q (lists_of (window_nodes W) count) ≡ true → Passing (AreIn W count) q
list_in W zero q h = elim (or_cases (q []) false h) [ inl e ↦ record { value = []; may = (refl, refl); passes = e } | inr e ↦ absurd cc ]
list_in W (suc count) q h =
    let r = in_window W (λ n. list_any q (map (λ rest. n ∷ rest) (lists_of (window_nodes W) count))) (sym (any_flat q (λ n. map (λ rest. n ∷ rest) (lists_of (window_nodes W) count)) (window_nodes W)) ∙ h) in
    let s = list_in W count (λ rest. q (r.value ∷ rest)) (sym (any_map q (λ rest. r.value ∷ rest) (lists_of (window_nodes W) count)) ∙ r.passes) in
    record { value = r.value ∷ s.value; may = (ap suc s.may.0, and_both _ _ r.may s.may.1); passes = s.passes }

pub list_has : (W : Window) (count : ℕ) (q : List AbsNode → Bool) (ns : List AbsNode) → AreIn W count ns → q ns ≡ true → list_any q (lists_of (window_nodes W) count) ≡ true
list_has W zero q [] are h = or_first (q []) false h
list_has W zero q (n ∷ ns) are h = let e : suc (length ns) ≡ 0 = are.0 in absurd (omega (arith, e))
list_has W (suc count) q [] are h = let e : 0 ≡ suc count = are.0 in absurd (omega (arith, e))
list_has W (suc count) q (n ∷ ns) are h =
    let p = and_parts (is_in_window W n) (list_all (is_in_window W) ns) are.1 in
    let e : suc (length ns) ≡ suc count = are.0 in
    let l : length ns ≡ count = omega (arith, e) in
    any_flat q (λ n. map (λ rest. n ∷ rest) (lists_of (window_nodes W) count)) (window_nodes W)
    ∙ window_has W (λ n. list_any q (map (λ rest. n ∷ rest) (lists_of (window_nodes W) count))) n p.0
    (any_map q (λ rest. n ∷ rest) (lists_of (window_nodes W) count) ∙ list_has W count (λ rest. q (n ∷ rest)) ns (l, p.1) h)

-- a formula is violated exactly where the test says so
pub violates_in : (M : AbstractMachine) (s : AbsCells) (f : Formula) → may_fail (window M 0) s f.prefix f.body ≡ true → Violates M s f
violates_in M s f h =
    let r = list_in (window M 0) f.prefix (λ ns. may (window M 0) s ns f.body (passes false)) h in
    record { nodes = r.value; count = r.may.0; are = r.may.1; false_there = maybe (window M 0) s false (May (window M 0) s r.value f.body) (may_in (window M 0) s r.value f.body (passes false) r.passes) }

pub violates_has : (M : AbstractMachine) (s : AbsCells) (f : Formula) → Violates M s f → may_fail (window M 0) s f.prefix f.body ≡ true
violates_has M s f v = list_has (window M 0) f.prefix (λ ns. may (window M 0) s ns f.body (passes false)) v.nodes (v.count, v.are) (may_has (window M 0) s v.nodes f.body (passes false) v.false_there.0 v.false_there.1 (is_passes false v.false_there.0 v.false_there.2))

-- a formula may hold exactly where the test says so
pub holds_in : (W : Window) (w : AbsCells) (f : Formula) → may_hold W w f.prefix f.body ≡ true → MayHold W w f
holds_in W w f h ns count are = go (may W w ns f.body (passes true)) refl
  where
    go : (b : Bool) → may W w ns f.body (passes true) ≡ b → MayBe true (May W w ns f.body)
    go true was = maybe W w true (May W w ns f.body) (may_in W w ns f.body (passes true) was)
    go false was =
        let z : list_any (λ ns. not (may W w ns f.body (passes true))) (lists_of (window_nodes W) f.prefix) ≡ true = list_has W f.prefix (λ ns. not (may W w ns f.body (passes true))) ns (count, are) (ap not was) in
        let y : may_hold W w f.prefix f.body ≡ false = all_by (λ ns. may W w ns f.body (passes true)) (lists_of (window_nodes W) f.prefix) z in
        absurd (let x : false ≡ true = sym y ∙ h in cc)

pub holds_has : (W : Window) (w : AbsCells) (f : Formula) → MayHold W w f → may_hold W w f.prefix f.body ≡ true
holds_has W w f all = go (may_hold W w f.prefix f.body) refl
  where
    go : (b : Bool) → may_hold W w f.prefix f.body ≡ b → may_hold W w f.prefix f.body ≡ true
    go true was = was
    go false was =
        let r = list_in W f.prefix (λ ns. not (may W w ns f.body (passes true))) (any_by (λ ns. may W w ns f.body (passes true)) (lists_of (window_nodes W) f.prefix) was) in
        let v = all r.value r.may.0 r.may.1 in
        let e : may W w r.value f.body (passes true) ≡ true = may_has W w r.value f.body (passes true) v.0 v.1 (is_passes true v.0 v.2) in
        absurd (let x : false ≡ true = sym (ap not e) ∙ r.passes in cc)
