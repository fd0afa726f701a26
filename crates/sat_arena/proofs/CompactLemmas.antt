-- An arena after its clauses got new places and the empty slots went.
use Rattle.std.proofs.Common.{◌≡◌, ℕ, ◌+◌, ◌<◌, ◌≤◌, zero, suc, true, List, [], ◌∷◌, length, get_or, map, refl, sym, ◌∙◌, ap, subst, arith, Option, Some, None}
use Rattle.std.specs.Prelude.{slice_get, All, filter, option_map}
use Rattle.std.specs.List.{count_by}
use Rattle.std.specs.Option.{option_and_then}
use Rattle.std.proofs.lemmas.Option.{none-some, same_Some, slice_get-map, slice_get-get_or, option_and_then_some, get_or_from_slice_get, slice_get_within}
use Rattle.std.proofs.lemmas.List.{length-map, get_or_default}
use Rattle.std.proofs.lemmas.List.Elements.{All-get_or, All-filter, All-map}
use Rattle.std.proofs.lemmas.List.Sums.{length-filter, count_by-le-length}
use Rattle.clause_core.specs.declared.literal.Lit.{Lit}
use Rattle.sat_arena.specs.declared.id.ClauseId.{ClauseId}
use Rattle.sat_arena.specs.declared.slot.Slot.{Slot}
use Rattle.sat_arena.specs.Live.{Entry, IsLive, literals, renamed}
use Rattle.sat_arena.specs.Linking.{lits_of, live_from, position, position_in, stands_at, IsLinked, IsKept, IsArena, places_from, numbered, moved_id, holds_clause}
use Rattle.sat_arena.proofs.LiveLemmas.{is_filled, long_filled, literals_at, live_filled, filled_live}
use Rattle.sat_arena.proofs.LinkLemmas.{id_at, same_place}
use Rattle.sat_arena.proofs.SlotLemmas.{stands_within}
use Rattle.sat_arena.proofs.NumberLemmas.{lits_numbered, says_numbered, length_numbered}
use Rattle.sat_arena.proofs.FilterLemmas.{lits_filter, kept_lits, renamed_is, slot_goes, slot_came}

says_filled : (c : List Lit) (first second d i : ℕ) → position_in c first second d ≡ Some i → is_filled c ≡ true
says_filled [] first second d i e = absurd (none-some i e)
says_filled (l ∷ ls) first second d i e = refl

module _ (slots : List Slot) where
  abbrev pub places : List ℕ
  places = places_from 0 (lits_of slots)

  abbrev pub left : List Slot
  left = filter holds_clause (numbered 0 slots)

  lits_as : lits_of (numbered 0 slots) ≡ lits_of slots
  lits_as = lits_numbered slots 0

  abbrev goes_to : ℕ → ℕ → Type 0
  goes_to p r = get_or places p 0 ≡ r

  -- what a clause says goes with it
  says_goes : (c p r i : ℕ) → stands_at slots c p ≡ Some i → goes_to p r → stands_at left c r ≡ Some i
  says_goes c p r i e f =
      option_and_then_some (position c) (slice_get (numbered 0 slots) p) i (says_numbered slots 0 c p ∙ e)
      (λ s g k. ap (option_and_then (position c))
      (slot_goes (numbered 0 slots) 0 p r s g (says_filled s.lits.items s.first s.second c i k) (ap (λ cs. get_or (places_from 0 cs) p 0) lits_as ∙ f ∙ omega arith))
      ∙ k)

  says_came : (c r i : ℕ) → stands_at left c r ≡ Some i → (p : ℕ) × (stands_at slots c p ≡ Some i) × goes_to p r
  says_came c r i e =
      option_and_then_some (position c) (slice_get left r) i e
      (λ s g k.
      let x : (p : ℕ) × (slice_get (numbered 0 slots) p ≡ Some s) × (get_or (places_from 0 (lits_of (numbered 0 slots))) p 0 ≡ 0 + r) = slot_came (numbered 0 slots) 0 r s g in
      (x.0, sym (says_numbered slots 0 c x.0) ∙ ap (option_and_then (position c)) x.1 ∙ k, ap (λ cs. get_or (places_from 0 cs) x.0 0) (sym lits_as) ∙ x.2 ∙ omega arith))

  -- a watch list with its ids renamed
  linked_renamed : (c : ℕ) (ids : List ClauseId) → IsLinked (stands_at slots c) ids → IsLinked (stands_at left c) (map (moved_id places) ids)
  linked_renamed c ids h = record { both = λ r i. (forth r i, back r i) } where
    forth : (r i : ℕ) → stands_at left c r ≡ Some i → slice_get (map (moved_id places) ids) i ≡ Some (id_at r)
    forth r i e =
        let x : (p : ℕ) × (stands_at slots c p ≡ Some i) × goes_to p r = says_came c r i e in
        slice_get-map (moved_id places) ids i ∙ ap (option_map (moved_id places)) ((h.both x.0 i).0 x.1) ∙ ap (λ n. Some (id_at n)) x.2

    back : (r i : ℕ) → slice_get (map (moved_id places) ids) i ≡ Some (id_at r) → stands_at left c r ≡ Some i
    back r i e = go (slice_get ids i) refl where
      go : (o : Option ClauseId) → slice_get ids i ≡ o → stands_at left c r ≡ Some i
      go None g = absurd (none-some (id_at r) (sym (slice_get-map (moved_id places) ids i ∙ ap (option_map (moved_id places)) g) ∙ e))
      go (Some k) g =
          let m : moved_id places k ≡ id_at r = same_Some (moved_id places k) (id_at r) (sym (slice_get-map (moved_id places) ids i ∙ ap (option_map (moved_id places)) g) ∙ e) in
          says_goes c k.place r i ((h.both k.place i).1 g) (same_place (get_or places k.place 0) r m)

length_kept : (slots : List Slot) (n : ℕ) → length (filter holds_clause (numbered n slots)) ≤ length slots
length_kept slots n =
    let f : length (filter holds_clause (numbered n slots)) ≡ count_by holds_clause (numbered n slots) = length-filter holds_clause (numbered n slots) in
    let g : count_by holds_clause (numbered n slots) ≤ length (numbered n slots) = count_by-le-length holds_clause (numbered n slots) in
    let k : length (numbered n slots) ≡ length slots = length_numbered slots n in
    omega arith

-- the list of a code after all lists were changed alike
get_mapped : (f : ClauseId → ClauseId) (watched : List (List ClauseId)) (c : ℕ) → get_or (map (map f) watched) c [] ≡ map f (get_or watched c [])
get_mapped f [] c = refl
get_mapped f (w ∷ ws) zero = refl
get_mapped f (w ∷ ws) (suc c) = get_mapped f ws c

filled_kept : (n : ℕ) (cs : List (List Lit)) → All (IsKept n) cs → All (IsKept n) (filter is_filled cs)
filled_kept n cs h = All-filter is_filled (IsKept n) cs h

pub arena_compacted : (n : ℕ) (slots left_ : List Slot) (watched now : List (List ClauseId)) → IsArena n slots watched → left_ ≡ left slots → now ≡ map (map (moved_id (places slots))) watched → IsArena n left_ now
arena_compacted n slots left_ watched now h e f = subst (λ ss. IsArena n ss now) (sym e) (subst (IsArena n (left slots)) (sym f) (record {
  few = h.few;
  lists = length-map watched (map (moved_id (places slots))) ∙ h.lists;
  places = let k : length (left slots) ≤ length slots = length_kept slots 0 in omega (arith, h.places);
  clauses = subst (All (IsKept n)) (sym (lits_filter (numbered 0 slots) ∙ ap (filter is_filled) (lits_as slots))) (filled_kept n (lits_of slots) h.clauses);
  linked = λ c. subst (IsLinked (stands_at (left slots) c)) (sym (get_mapped (moved_id (places slots)) watched c)) (linked_renamed slots c (get_or watched c []) (h.linked c));
}))

-- ids in watch lists and held ids have slots

pub listed_within : (n : ℕ) (slots : List Slot) (watched : List (List ClauseId)) → IsArena n slots watched → All (All (λ (k : ClauseId). k.place < length (numbered 0 slots))) watched
listed_within n slots watched h c d l i e m =
    let same : get_or watched c d ≡ get_or watched c [] = get_or_default watched c d [] l in
    let id : ClauseId = get_or (get_or watched c d) i e in
    let g : slice_get (get_or watched c []) i ≡ Some id = ap (λ ids. slice_get ids i) (sym same) ∙ slice_get-get_or (get_or watched c d) i e m in
    let k : id.place < length slots = stands_within slots c id.place i (((h.linked c).both id.place i).1 g) in
    let o : length (numbered 0 slots) ≡ length slots = length_numbered slots 0 in
    omega arith

-- the live clauses and held ids afterwards

map_agree : {X Y : Type 0} (f g : X → Y) (xs : List X) → ((x : X) (i : ℕ) → slice_get xs i ≡ Some x → f x ≡ g x) → map f xs ≡ map g xs
map_agree f g [] h = refl
map_agree f g (x ∷ xs) h = ap (λ y. y ∷ map f xs) (h x 0 refl) ∙ ap (λ ys. g x ∷ ys) (map_agree f g xs (λ y i e. h y (suc i) e))

map_map : {X Y Z : Type 0} (f : Y → Z) (g : X → Y) (xs : List X) → map f (map g xs) ≡ map (λ x. f (g x)) xs
map_map f g [] = refl
map_map f g (x ∷ xs) = ap (λ ys. f (g x) ∷ ys) (map_map f g xs)

module _ (cs : List (List Lit)) where
  abbrev pub old_live : List Entry
  old_live = live_from 0 cs

  abbrev pub new_live : List Entry
  new_live = live_from 0 (filter is_filled cs)

  abbrev pub new_id : ClauseId → ClauseId
  new_id = moved_id (places_from 0 cs)

  filled : (id : ClauseId) → IsLive old_live id → is_filled (get_or cs id.place []) ≡ true
  filled id l = long_filled (get_or cs id.place []) (live_filled cs id.place l)

  lits_moved : (id : ClauseId) → IsLive old_live id → get_or (filter is_filled cs) (get_or (places_from 0 cs) id.place 0) [] ≡ get_or cs id.place []
  lits_moved id l = kept_lits cs 0 id.place (get_or (places_from 0 cs) id.place 0) (filled id l) (omega arith)

  pub moved_renamed : (held : List ClauseId) → All (IsLive old_live) held → map new_id held ≡ map (renamed old_live new_live) held
  moved_renamed held h = map_agree new_id (renamed old_live new_live) held (λ id i e. sym (renamed_is cs id.place (filled id (at_live id i e)))) where
    at_live : (id : ClauseId) (i : ℕ) → slice_get held i ≡ Some id → IsLive old_live id
    at_live id i e = subst (IsLive old_live) (get_or_from_slice_get held i id id e) (All-get_or (IsLive old_live) held i id (slice_get_within held i id e) h)

  pub moved_live : (held : List ClauseId) → All (IsLive old_live) held → All (IsLive new_live) (map new_id held)
  moved_live held h = All-map (IsLive new_live) new_id held (λ i d l. go (get_or held i d) (All-get_or (IsLive old_live) held i d l h)) where
    go : (id : ClauseId) → IsLive old_live id → IsLive new_live (new_id id)
    go id l = filled_live (filter is_filled cs) (get_or (places_from 0 cs) id.place 0) (subst (λ (c : List Lit). 0 < length c) (sym (lits_moved id l)) (live_filled cs id.place l))

  pub moved_named : (held : List ClauseId) → All (IsLive old_live) held → map (literals new_live) (map new_id held) ≡ map (literals old_live) held
  moved_named held h = map_map (literals new_live) new_id held ∙ map_agree (λ id. literals new_live (new_id id)) (literals old_live) held (λ id i e. go id (at_live id i e)) where
    at_live : (id : ClauseId) (i : ℕ) → slice_get held i ≡ Some id → IsLive old_live id
    at_live id i e = subst (IsLive old_live) (get_or_from_slice_get held i id id e) (All-get_or (IsLive old_live) held i id (slice_get_within held i id e) h)

    go : (id : ClauseId) → IsLive old_live id → literals new_live (new_id id) ≡ literals old_live id
    go id l = literals_at (filter is_filled cs) (get_or (places_from 0 cs) id.place 0) ∙ lits_moved id l ∙ sym (literals_at cs id.place)

-- the slots that are left hold these clauses
pub lits_left : (slots : List Slot) → lits_of (left slots) ≡ filter is_filled (lits_of slots)
lits_left slots = lits_filter (numbered 0 slots) ∙ ap (filter is_filled) (lits_as slots)
