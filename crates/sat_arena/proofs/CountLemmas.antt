-- How often an id stands in a watch list that is linked.
use Rattle.std.proofs.Common.{◌≡◌, ℕ, ◌+◌, zero, suc, Bool, true, false, cond, List, [], ◌∷◌, eqb, refl, sym, ◌∙◌, ap, arith, Option, Some, None}
use Rattle.std.specs.Prelude.{slice_get}
use Rattle.std.specs.Option.{is_some}
use Rattle.std.specs.List.{count_by}
use Rattle.std.proofs.lemmas.Bool.{eq-eqb, ne_eqb, cond-true, cond-false}
use Rattle.std.proofs.lemmas.List.Sums.{sum_by-cons}
use Rattle.std.proofs.lemmas.Option.{none-some, same_Some}
use Rattle.sat_arena.specs.declared.id.ClauseId.{ClauseId}
use Rattle.sat_arena.specs.Linking.{IsLinked}
use Rattle.sat_arena.proofs.LinkLemmas.{id_at, same_place}

abbrev pub at_place : ℕ → ClauseId → Bool
at_place p k = eqb k.place p

count_yes : (p : ℕ) (k : ClauseId) (ids : List ClauseId) → eqb k.place p ≡ true → count_by (at_place p) (k ∷ ids) ≡ 1 + count_by (at_place p) ids
count_yes p k ids h = sum_by-cons (λ (k : ClauseId). cond (at_place p k) 1 0) k ids ∙ ap (λ n. n + count_by (at_place p) ids) (cond-true (eqb k.place p) 1 0 h)

count_no : (p : ℕ) (k : ClauseId) (ids : List ClauseId) → eqb k.place p ≡ false → count_by (at_place p) (k ∷ ids) ≡ 0 + count_by (at_place p) ids
count_no p k ids h = sum_by-cons (λ (k : ClauseId). cond (at_place p k) 1 0) k ids ∙ ap (λ n. n + count_by (at_place p) ids) (cond-false (eqb k.place p) 1 0 h)

pub count_zero : (p : ℕ) (ids : List ClauseId) → ((j : ℕ) → slice_get ids j ≡ Some (id_at p) → ⊥) → count_by (at_place p) ids ≡ 0
count_zero p [] none = refl
count_zero p (k ∷ ids) none =
    count_no p k ids (ne_eqb k.place p (λ e. none 0 (ap (λ q. Some (id_at q)) e))) ∙ ap (λ n. 0 + n) (count_zero p ids (λ j. none (suc j))) ∙ omega arith

pub count_one : (p i : ℕ) (ids : List ClauseId) → slice_get ids i ≡ Some (id_at p) → ((j : ℕ) → slice_get ids j ≡ Some (id_at p) → j ≡ i) → count_by (at_place p) ids ≡ 1
count_one p i [] here only = absurd (none-some (id_at p) here)
count_one p zero (k ∷ ids) here only =
    count_yes p k ids (eq-eqb k.place p (same_place k.place p (same_Some k (id_at p) here)))
    ∙ ap (λ n. 1 + n) (count_zero p ids (λ j e. absurd (let f : suc j ≡ 0 = only (suc j) e in omega arith))) ∙ omega arith
count_one p (suc i) (k ∷ ids) here only =
    count_no p k ids (ne_eqb k.place p (λ e. absurd (let f : 0 ≡ suc i = only 0 (ap (λ q. Some (id_at q)) e) in omega arith)))
    ∙ ap (λ n. 0 + n) (count_one p i ids here (λ j e. let f : suc j ≡ suc i = only (suc j) e in omega arith)) ∙ omega arith

pub listed_once : (f : ℕ → Option ℕ) (ids : List ClauseId) (p : ℕ) → IsLinked f ids → count_by (at_place p) ids ≡ cond (is_some (f p)) 1 0
listed_once f ids p h = go (f p) refl where
  go : (o : Option ℕ) → f p ≡ o → count_by (at_place p) ids ≡ cond (is_some (f p)) 1 0
  go (Some i) e = count_one p i ids ((h.both p i).0 e) (λ j g. same_Some j i (sym ((h.both p j).1 g) ∙ e)) ∙ ap (λ o. cond (is_some o) 1 0) (sym e)
  go None e = count_zero p ids (λ j g. none-some j (sym e ∙ (h.both p j).1 g)) ∙ ap (λ o. cond (is_some o) 1 0) (sym e)
