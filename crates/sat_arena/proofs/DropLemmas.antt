-- An id that goes out of a watch list, and the clause that gets its position.
use Rattle.std.proofs.Common.{◌≡◌, ℕ, ◌-◌, ◌<◌, ◌≤◌, List, length, get_or, set, sym, ◌∙◌, ap, subst, refl, arith, Option, Some}
use Rattle.std.specs.Prelude.{slice_get}
use Rattle.std.specs.List.{swap_remove}
use Rattle.std.proofs.lemmas.Option.{slice_get-get_or}
use Rattle.sat_arena.specs.declared.id.ClauseId.{ClauseId}
use Rattle.sat_arena.specs.declared.slot.Slot.{Slot}
use Rattle.sat_arena.specs.Linking.{position, stands_at, IsLinked, IsLinkedBut}
use Rattle.sat_arena.proofs.PlaceLemmas.{get_moved, length_gone}
use Rattle.sat_arena.proofs.LinkLemmas.{id_at, linked_cut, linked_moved}
use Rattle.sat_arena.proofs.SlotLemmas.{stands_within, stands_here, stands_other}

-- the place of the id that gets a position
abbrev pub place_at : List ClauseId → ℕ → ℕ
place_at ids at = (get_or ids at (id_at 0)).place

-- the clause that gets a position said that it stands at the last one
pub was_last : (says : ℕ → Option ℕ) (ids new : List ClauseId) (at : ℕ) → IsLinkedBut says ids at → at < length ids → new ≡ swap_remove ids at (id_at 0) → at < length new → says (place_at new at) ≡ Some (length ids - 1)
was_last says ids new at h w e n =
    let m : length (swap_remove ids at (id_at 0)) ≡ length ids - 1 = length_gone ids at (id_at 0) (omega arith) in
    let f : length new ≡ length (swap_remove ids at (id_at 0)) = ap length e in
    (h.both (place_at new at) (length ids - 1)).1
    (sym (get_moved ids at (id_at 0) (omega arith)) ∙ ap (λ l. slice_get l at) (sym e) ∙ slice_get-get_or new at (id_at 0) n, λ g. omega arith)

pub has_slot : (slots : List Slot) (c at : ℕ) (ids new : List ClauseId) → IsLinkedBut (stands_at slots c) ids at → at < length ids → new ≡ swap_remove ids at (id_at 0) → at < length new → place_at new at < length slots
has_slot slots c at ids new h w e n = stands_within slots c (place_at new at) (length ids - 1) (was_last (stands_at slots c) ids new at h w e n)

pub links_moved : (slots : List Slot) (c at : ℕ) (ids new items : List ClauseId) (t : Slot) → IsLinkedBut (stands_at slots c) ids at → at < length ids → new ≡ swap_remove ids at (id_at 0) → items ≡ new → at < length items → position c t ≡ Some at → IsLinked (stands_at (set slots (place_at items at) t) c) new
links_moved slots c at ids new items t h w e i n p =
    let m : length (swap_remove ids at (id_at 0)) ≡ length ids - 1 = length_gone ids at (id_at 0) (omega arith) in
    let f : length items ≡ length (swap_remove ids at (id_at 0)) = ap length (i ∙ e) in
    let r : place_at items at < length slots = has_slot slots c at ids items h w (i ∙ e) n in
    subst (IsLinked (stands_at (set slots (place_at items at) t) c)) (sym e)
    (linked_moved (stands_at slots c) (stands_at (set slots (place_at items at) t) c) ids at (place_at items at) (id_at 0) h (omega arith)
    (ap (λ l. slice_get l at) (sym (i ∙ e)) ∙ slice_get-get_or items at (id_at 0) n)
    (stands_here slots (place_at items at) c t r ∙ p)
    (λ q o. stands_other slots (place_at items at) c q t o))

pub links_cut : (slots : List Slot) (c at : ℕ) (ids new items : List ClauseId) → IsLinkedBut (stands_at slots c) ids at → at < length ids → new ≡ swap_remove ids at (id_at 0) → items ≡ new → length items ≤ at → IsLinked (stands_at slots c) new
links_cut slots c at ids new items h w e i n =
    let m : length (swap_remove ids at (id_at 0)) ≡ length ids - 1 = length_gone ids at (id_at 0) (omega arith) in
    let f : length items ≡ length (swap_remove ids at (id_at 0)) = ap length (i ∙ e) in
    subst (IsLinked (stands_at slots c)) (sym e) (linked_cut (stands_at slots c) (stands_at slots c) ids at (id_at 0) h (omega arith) (λ q. refl))
