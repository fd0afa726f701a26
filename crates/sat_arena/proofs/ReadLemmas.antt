-- What callers read of an arena: the literals of a clause, and the clauses watched at a literal.
use Rattle.std.proofs.Common.{◌≡◌, ℕ, ◌<◌, ◌≤◌, zero, suc, Bool, true, cond, List, [], ◌∷◌, length, get_or, eqb, refl, sym, ◌∙◌, ap, subst, arith, inl, inr, ◌⊎◌, Option, Some, None}
use Rattle.std.specs.Prelude.{slice_get, All, ◌↔◌, not}
use Rattle.std.specs.Option.{is_some, option_and_then}
use Rattle.std.proofs.lemmas.Bool.{cases_lt, ne_eqb}
use Rattle.std.proofs.lemmas.Option.{slice_get_past, slice_get-get_or, get_or_from_slice_get}
use Rattle.std.proofs.lemmas.List.{length-map, get_or-map, get_or_past}
use Rattle.std.proofs.lemmas.List.Elements.{All-get_or}
use Rattle.clause_core.specs.declared.literal.Lit.{Lit}
use Rattle.clause_core.specs.Formula.{IsInRange}
use Rattle.sat_arena.specs.declared.id.ClauseId.{ClauseId}
use Rattle.sat_arena.specs.declared.slot.Slot.{Slot}
use Rattle.sat_arena.specs.Live.{Store, IsLive, literals, is_watched, times_listed}
use Rattle.clause_core.specs.Members.{NoneTwice}
use Rattle.sat_arena.specs.Linking.{lits_of, live_from, position, stands_at, IsKept, IsArena}
use Rattle.sat_arena.proofs.LiveLemmas.{literals_at, live_filled, filled_live, live_within}
use Rattle.sat_arena.proofs.ClauseLemmas.{among_two, says_among, among_filled}
use Rattle.sat_arena.proofs.CountLemmas.{listed_once}
use Rattle.sat_arena.proofs.ArenaLemmas.{seen_live, seen_variables}

pub lits_at : (slots : List Slot) (p : ℕ) (d : Slot) → p < length slots → get_or (lits_of slots) p [] ≡ (get_or slots p d).lits.items
lits_at slots p d h = get_or-map (λ (s : Slot). s.lits.items) slots p d [] h

pub length_lits : (slots : List Slot) → length (lits_of slots) ≡ length slots
length_lits slots = length-map slots (λ (s : Slot). s.lits.items)

past : (slots : List Slot) (p : ℕ) → slice_get slots p ≡ None → p < length slots → ⊥
past [] p e l = omega arith
past (s ∷ slots) zero e l = cc
past (s ∷ slots) (suc p) e l = past slots p e (omega arith)

module _ (n : ℕ) (slots : List Slot) (watched : List (List ClauseId)) (h : IsArena n slots watched) where
  pub kept_at : (p : ℕ) → p < length slots → IsKept n (get_or (lits_of slots) p [])
  kept_at p l = All-get_or (IsKept n) (lits_of slots) p [] (let e : length (lits_of slots) ≡ length slots = length_lits slots in omega arith) h.clauses

  pub stands_among : (c p : ℕ) → is_some (stands_at slots c p) ≡ among_two c (get_or (lits_of slots) p [])
  stands_among c p = go (cases_lt p (length slots)) where
    among : (s : Slot) → slice_get slots p ≡ Some s → get_or (lits_of slots) p [] ≡ s.lits.items → (0 < length s.lits.items → 2 ≤ length s.lits.items) → is_some (stands_at slots c p) ≡ among_two c (get_or (lits_of slots) p [])
    among s e f two = ap (λ o. is_some (option_and_then (position c) o)) e ∙ says_among s.lits.items s.first s.second c two ∙ ap (among_two c) (sym f)

    within : (o : Option Slot) → slice_get slots p ≡ o → p < length slots → is_some (stands_at slots c p) ≡ among_two c (get_or (lits_of slots) p [])
    within (Some s) e l =
        let f : get_or (lits_of slots) p [] ≡ s.lits.items = lits_at slots p s l ∙ ap (λ (t : Slot). t.lits.items) (get_or_from_slice_get slots p s s e) in
        among s e f (subst (λ (c : List Lit). 0 < length c → 2 ≤ length c) f (kept_at p l).two)
    within None e l = absurd (past slots p e l)

    go : (p < length slots) ⊎ (length slots ≤ p) → is_some (stands_at slots c p) ≡ among_two c (get_or (lits_of slots) p [])
    go (inl l) = within (slice_get slots p) refl l
    go (inr g) =
        ap (λ o. is_some (option_and_then (position c) o)) (slice_get_past slots p g)
        ∙ ap (among_two c) (sym (get_or_past (lits_of slots) p [] (let e : length (lits_of slots) ≡ length slots = length_lits slots in omega arith)))

  module _ (st : Store) (v : record { variables = n; live = live_from 0 (lits_of slots) } ≡ st) where
    live_inside : (id : ClauseId) → IsLive st.live id → IsLive (live_from 0 (lits_of slots)) id
    live_inside id l = subst (λ es. IsLive es id) (sym (seen_live n (lits_of slots) st v)) l

    pub place_within : (id : ClauseId) → IsLive st.live id → id.place < length slots
    place_within id l = let i : id.place < length (lits_of slots) = live_within (lits_of slots) id.place (live_inside id l) in let e : length (lits_of slots) ≡ length slots = length_lits slots in omega arith

    pub literals_are : (id : ClauseId) → literals st.live id ≡ get_or (lits_of slots) id.place []
    literals_are id = ap (λ es. literals es id) (sym (seen_live n (lits_of slots) st v)) ∙ literals_at (lits_of slots) id.place

    pub live_long : (id : ClauseId) → IsLive st.live id → 2 ≤ length (get_or (lits_of slots) id.place [])
    live_long id l = (kept_at id.place (place_within id l)).two (live_filled (lits_of slots) id.place (live_inside id l))

    pub clause_two : (id : ClauseId) (c : List Lit) → IsLive st.live id → c ≡ get_or (lits_of slots) id.place [] → 2 ≤ length c
    clause_two id c l e = let n : 2 ≤ length (get_or (lits_of slots) id.place []) = live_long id l in let f : length c ≡ length (get_or (lits_of slots) id.place []) = ap length e in omega arith

    pub slot_long : (id : ClauseId) (s : Slot) → IsLive st.live id → s ≡ get_or slots id.place s → 2 ≤ length s.lits.items
    slot_long id s l e = clause_two id s.lits.items l (ap (λ (t : Slot). t.lits.items) e ∙ sym (lits_at slots id.place s (place_within id l)))

    pub slot_literals : (id : ClauseId) (s : Slot) → IsLive st.live id → s ≡ get_or slots id.place s → literals st.live id ≡ s.lits.items
    slot_literals id s l e = literals_are id ∙ lits_at slots id.place s (place_within id l) ∙ ap (λ (t : Slot). t.lits.items) (sym e)

    pub clause_once : (id : ClauseId) (c : List Lit) → IsLive st.live id → c ≡ get_or (lits_of slots) id.place [] → NoneTwice c
    clause_once id c l e = subst NoneTwice (sym e) (kept_at id.place (place_within id l)).once

    pub clause_range : (id : ClauseId) (c : List Lit) → IsLive st.live id → c ≡ get_or (lits_of slots) id.place [] → IsInRange st.variables c
    clause_range id c l e = subst (λ m. IsInRange m c) (seen_variables n (lits_of slots) st v) (subst (IsInRange n) (sym e) (kept_at id.place (place_within id l)).range)

    pub watched_once : (l : Lit) (ids : List ClauseId) → ids ≡ get_or watched l.code [] → (id : ClauseId) → times_listed id ids ≡ cond (is_watched st.live id l) 1 0
    watched_once l ids e id =
        ap (times_listed id) e ∙ listed_once (stands_at slots l.code) (get_or watched l.code []) id.place (h.linked l.code)
        ∙ ap (λ b. cond b 1 0) (stands_among l.code id.place ∙ ap (among_two l.code) (sym (literals_are id)))

    says_here : (l : Lit) (ids : List ClauseId) → ids ≡ get_or watched l.code [] → (k : ℕ) (d : ClauseId) → k < length ids → among_two l.code (get_or (lits_of slots) (get_or ids k d).place []) ≡ true
    says_here l ids e k d i =
        let f : slice_get (get_or watched l.code []) k ≡ Some (get_or ids k d) = ap (λ xs. slice_get xs k) (sym e) ∙ slice_get-get_or ids k d i in
        sym (stands_among l.code (get_or ids k d).place) ∙ ap is_some (((h.linked l.code).both (get_or ids k d).place k).1 f)

    pub watched_live : (l : Lit) (ids : List ClauseId) → ids ≡ get_or watched l.code [] → All (IsLive st.live) ids
    watched_live l ids e k d i =
        subst (λ es. IsLive es (get_or ids k d)) (seen_live n (lits_of slots) st v)
        (filled_live (lits_of slots) (get_or ids k d).place (among_filled l.code (get_or (lits_of slots) (get_or ids k d).place []) (says_here l ids e k d i)))

    pub watched_watched : (l : Lit) (ids : List ClauseId) → ids ≡ get_or watched l.code [] → All (λ id. is_watched st.live id l ≡ true) ids
    watched_watched l ids e k d i = ap (among_two l.code) (literals_are (get_or ids k d)) ∙ says_here l ids e k d i

    pub live_where : (id : ClauseId) (s : Slot) (b : Bool) → id.place < length slots → s ≡ get_or slots id.place s → b ≡ not (eqb (length s.lits.items) 0) → (b ≡ true) ↔ IsLive st.live id
    live_where id s b w e f = (forth, back) where
      lits : get_or (lits_of slots) id.place [] ≡ s.lits.items
      lits = lits_at slots id.place s w ∙ ap (λ (t : Slot). t.lits.items) (sym e)

      forth : b ≡ true → IsLive st.live id
      forth t = subst (λ es. IsLive es id) (seen_live n (lits_of slots) st v) (filled_live (lits_of slots) id.place (subst (λ (c : List Lit). 0 < length c) (sym lits) (long s.lits.items (sym f ∙ t)))) where
        long : (c : List Lit) → not (eqb (length c) 0) ≡ true → 0 < length c
        long [] e = cc
        long (l ∷ ls) e = omega arith

      back : IsLive st.live id → b ≡ true
      back l = f ∙ ap not (ne_eqb (length s.lits.items) 0 (λ z. let m : 2 ≤ length s.lits.items = slot_long id s l e in omega arith))
