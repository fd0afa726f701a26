-- Where a coded state violates a formula.
use Rattle.std.proofs.Common.{◌≡◌, ◌↔◌, ℕ, zero, suc, Bool, true, false, ◌||◌, List, [], ◌∷◌, Some, refl, sym, ◌∙◌, ap, IsTrue}
use Rattle.std.specs.Prelude.{slice_get}
use Rattle.std.specs.List.{list_any}
use Rattle.circuit_core.specs.declared.edge.Edge.{Edge}
use Rattle.circuit_core.specs.Network.{Network}
use Rattle.lemma_strengthen.specs.declared.formula.Formula.{Formula}
use Rattle.other_abstract.specs.declared.machine.AbstractMachine.{AbstractMachine}
use Rattle.other_abstract.specs.May.{AbsCells}
use Rattle.other_abstract.specs.Tests.{may_fail}
use Rattle.other_abstract.specs.Machines.{Violates, window}
use Rattle.bit_encode.specs.declared.set.Possible.{Possible}
use Rattle.bit_encode.specs.MaySets.{Agrees}
use Rattle.bit_encode.specs.Codes.{cell_lists, coded_state, is_legal}
use Rattle.bit_encode.specs.Coding.{AreCoded}
use Rattle.bit_encode.specs.Terms.{TellsIn}
use Rattle.bit_encode.proofs.CellLemmas.{code_shows}

any_found : {X : Type 0} (p : X → Bool) (xs : List X) → list_any p xs ≡ true → (k : ℕ) × (y : X) × (slice_get xs k ≡ Some y) × (p y ≡ true)
any_found p [] h = cc
any_found {X = X} p (x ∷ xs) h = go (p x) refl (λ rest. any_found p xs rest)
  where
    go : (b : Bool) → p x ≡ b → (list_any p xs ≡ true → (k : ℕ) × (y : X) × (slice_get xs k ≡ Some y) × (p y ≡ true)) → (k : ℕ) × (y : X) × (slice_get (x ∷ xs) k ≡ Some y) × (p y ≡ true)
    go true e found = (zero, x, refl, e)
    go false e found = let r = found (sym (ap (λ b. b || list_any p xs) e) ∙ h) in (suc r.0, r.1, r.2, r.3)

any_back : {X : Type 0} (p : X → Bool) (xs : List X) (k : ℕ) (y : X) → slice_get xs k ≡ Some y → p y ≡ true → list_any p xs ≡ true
any_back p [] k y e h = cc
any_back p (x ∷ xs) zero y e h = let same : x ≡ y = cc in ap (λ b. b || list_any p xs) (ap p same ∙ h)
any_back p (x ∷ xs) (suc k) y e h = ap (λ b. p x || b) (any_back p xs k y e h) ∙ or_true (p x)
  where
    or_true : (b : Bool) → (b || true) ≡ true
    or_true true = refl
    or_true false = refl

pub coded_violation : (M : AbstractMachine) (c : Network) (x : ℕ → Bool) (val : Edge → Bool) (a : ℕ) (cells : List (List Possible)) (e : Edge)
    → ((s : AbsCells) (f : Formula) → IsTrue (may_fail (window M 0) s f.prefix f.body) ↔ Violates M s f)
    → Agrees c x val → AreCoded val x a (cell_lists (window M 0)) cells → is_legal x a (cell_lists (window M 0)) ≡ true
    → TellsIn c cells e (λ w. list_any (λ (f : Formula). may_fail (window M 0) w f.prefix f.body) M.formulas)
    → IsTrue (val e) ↔ ((k : ℕ) × (f : Formula) × (slice_get M.formulas k ≡ Some f) × Violates M (coded_state x a (cell_lists (window M 0))) f)
unfolding TellsIn
coded_violation M c x val a cells e decided agrees coded legal tells =
    let s : AbsCells = coded_state x a (cell_lists (window M 0)) in
    let is : val e ≡ list_any (λ (f : Formula). may_fail (window M 0) s f.prefix f.body) M.formulas = tells x val agrees s (code_shows val x a (cell_lists (window M 0)) cells coded legal) in (
      λ h. let r = any_found (λ (f : Formula). may_fail (window M 0) s f.prefix f.body) M.formulas (sym is ∙ h) in (r.0, r.1, r.2, (decided s r.1).0 r.3),
      λ h. is ∙ any_back (λ (f : Formula). may_fail (window M 0) s f.prefix f.body) M.formulas h.0 h.1 h.2 ((decided s h.1).1 h.3),
    )
