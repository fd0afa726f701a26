-- What an arena keeps: from the start on, and after a clause was added.
use Rattle.std.proofs.Common.{◌≡◌, ℕ, ◌+◌, ◌*◌, ◌^◌, ◌<◌, ◌≤◌, cond, List, [], ◌∷◌, ◌++◌, length, get_or, replicate, eqb, sym, ◌∙◌, ap, subst, arith, inl, inr, ◌⊎◌, Some, None}
use Rattle.std.specs.Prelude.{slice_get, All}
use Rattle.std.specs.Option.{option_and_then}
use Rattle.std.proofs.lemmas.Bool.{cases_eq, cases_lt, eq-eqb, ne_eqb, cond-true, cond-false}
use Rattle.std.proofs.lemmas.Option.{slice_get_past}
use Rattle.std.proofs.lemmas.List.{length-replicate, length-set, map_push, length_push, length-map, get_or-set_same, get_or-set_other}
use Rattle.std.proofs.lemmas.List.Elements.{All-nil, All-push}
use Rattle.clause_core.specs.declared.literal.Lit.{Lit}
use Rattle.clause_core.specs.Formula.{IsInRange}
use Rattle.sat_arena.specs.declared.id.ClauseId.{ClauseId}
use Rattle.sat_arena.specs.declared.slot.Slot.{Slot}
use Rattle.sat_arena.specs.Live.{Store, IdsDiffer}
use Rattle.clause_core.specs.Members.{NoneTwice}
use Rattle.sat_arena.specs.Linking.{lits_of, live_from, position, stands_at, IsLinked, IsKept, IsArena, added}
use Rattle.sat_arena.proofs.PlaceLemmas.{get_end, get_left}
use Rattle.sat_arena.proofs.LinkLemmas.{id_at, linked_none, linked_same, linked_push, no_ids}
use Rattle.sat_arena.proofs.LiveLemmas.{live_push, ids_differ}
use Rattle.sat_arena.proofs.ClauseLemmas.{says_by, codes_differ, code_within}

pub arena_none : (n : ℕ) (slots : List Slot) (watched : List (List ClauseId)) → n ≤ 2 ^ 31 → slots ≡ [] → watched ≡ replicate (2 * n) [] → IsArena n slots watched
arena_none n slots watched few s w = record {
  few = few;
  lists = ap length w ∙ length-replicate (2 * n) [];
  places = let e : length slots ≡ 0 = ap length s in omega arith;
  clauses = subst (λ ss. All (IsKept n) (lits_of ss)) (sym s) (All-nil (IsKept n));
  linked = λ c. subst (λ ws. IsLinked (stands_at slots c) (get_or ws c [])) (sym w)
      (subst (IsLinked (stands_at slots c)) (sym (no_ids (2 * n) c)) (linked_none (stands_at slots c) (λ p. ap (λ ss. stands_at ss c p) s)));
}

-- a clause more

stands_past : (slots : List Slot) (c : ℕ) → stands_at slots c (length slots) ≡ None
stands_past slots c = ap (option_and_then (position c)) (slice_get_past slots (length slots) (omega arith))

stands_end : (slots : List Slot) (s : Slot) (c : ℕ) → stands_at (slots ++ s ∷ []) c (length slots) ≡ position c s
stands_end slots s c = ap (option_and_then (position c)) (get_end slots s)

stands_left : (slots : List Slot) (s : Slot) (c p : ℕ) → (p ≡ length slots → ⊥) → stands_at (slots ++ s ∷ []) c p ≡ stands_at slots c p
stands_left slots s c p n = ap (option_and_then (position c)) (go (cases_lt p (length slots))) where
  go : (p < length slots) ⊎ (length slots ≤ p) → slice_get (slots ++ s ∷ []) p ≡ slice_get slots p
  go (inl h) = get_left slots (s ∷ []) p h
  go (inr h) = slice_get_past (slots ++ s ∷ []) p (let e : length (slots ++ s ∷ []) ≡ length slots + 1 = length_push slots s in omega arith) ∙ sym (slice_get_past slots p h)

pub added_here : (watched : List (List ClauseId)) (c : ℕ) (id : ClauseId) → c < length watched → get_or (added watched c id) c [] ≡ get_or watched c [] ++ id ∷ []
added_here watched c id h = get_or-set_same watched c (get_or watched c [] ++ id ∷ []) [] h

pub added_other : (watched : List (List ClauseId)) (c d : ℕ) (id : ClauseId) → (d ≡ c → ⊥) → get_or (added watched c id) d [] ≡ get_or watched d []
added_other watched c d id n = get_or-set_other watched c d (get_or watched c [] ++ id ∷ []) [] n

pub length_added : (watched : List (List ClauseId)) (c : ℕ) (id : ClauseId) → length (added watched c id) ≡ length watched
length_added watched c id = length-set watched c (get_or watched c [] ++ id ∷ [])

module _ (n : ℕ) (slots : List Slot) (watched : List (List ClauseId)) (s : Slot) (a b : Lit) where
  abbrev all_slots : List Slot
  all_slots = slots ++ s ∷ []

  abbrev both_added : List (List ClauseId)
  both_added = added (added watched a.code (id_at (length slots))) b.code (id_at (length slots))

  pushed_here : (c : ℕ) → IsLinked (stands_at slots c) (get_or watched c []) → position c s ≡ Some (length (get_or watched c [])) → get_or both_added c [] ≡ get_or watched c [] ++ id_at (length slots) ∷ [] → IsLinked (stands_at all_slots c) (get_or both_added c [])
  pushed_here c h e w =
      subst (IsLinked (stands_at all_slots c)) (sym w)
      (linked_push (stands_at slots c) (stands_at all_slots c) (get_or watched c []) (length slots) h (stands_past slots c) (stands_end slots s c ∙ e) (λ q. stands_left slots s c q))

  pushed_not : (c : ℕ) → IsLinked (stands_at slots c) (get_or watched c []) → position c s ≡ None → get_or both_added c [] ≡ get_or watched c [] → IsLinked (stands_at all_slots c) (get_or both_added c [])
  pushed_not c h e w =
      subst (IsLinked (stands_at all_slots c)) (sym w) (linked_same (stands_at slots c) (stands_at all_slots c) (get_or watched c []) same h) where
        same : (p : ℕ) → stands_at all_slots c p ≡ stands_at slots c p
        same p = go (cases_eq p (length slots)) where
          go : (p ≡ length slots) ⊎ (p ≡ length slots → ⊥) → stands_at all_slots c p ≡ stands_at slots c p
          go (inl f) = ap (stands_at all_slots c) f ∙ stands_end slots s c ∙ e ∙ sym (stands_past slots c) ∙ ap (stands_at slots c) (sym f)
          go (inr m) = stands_left slots s c p m

  pub arena_push : IsArena n slots watched → length slots < 2 ^ 32 → 2 ≤ length s.lits.items → NoneTwice s.lits.items → IsInRange n s.lits.items
      → a ≡ get_or s.lits.items 0 a → b ≡ get_or s.lits.items 1 b → s.first ≡ length (get_or watched a.code []) → s.second ≡ length (get_or watched b.code [])
      → IsArena n all_slots both_added
  arena_push h short two once range ea eb ef es = record {
    few = h.few;
    lists = length_added (added watched a.code (id_at (length slots))) b.code (id_at (length slots)) ∙ length_added watched a.code (id_at (length slots)) ∙ h.lists;
    places = let e : length all_slots ≡ length slots + 1 = length_push slots s in omega arith;
    clauses = subst (All (IsKept n)) (sym (map_push (λ (s : Slot). s.lits.items) slots s)) (All-push (IsKept n) (lits_of slots) s.lits.items h.clauses (record { two = λ z. two; once = once; range = range }));
    linked = λ c. linked_at c (cases_eq c a.code) (cases_eq c b.code);
  } where
    says : (c : ℕ) → position c s ≡ cond (eqb a.code c) (Some s.first) (cond (eqb b.code c) (Some s.second) None)
    says c = says_by s.lits.items s.first s.second c a b two ∙ ap (λ (l : Lit). cond (eqb l.code c) (Some s.first) (cond (eqb (get_or s.lits.items 1 b).code c) (Some s.second) None)) (sym ea)
        ∙ ap (λ (l : Lit). cond (eqb a.code c) (Some s.first) (cond (eqb l.code c) (Some s.second) None)) (sym eb)

    differ : a.code ≡ b.code → ⊥
    differ e = codes_differ s.lits.items 0 1 a b once (omega arith) (omega arith) (ap (λ (l : Lit). l.code) (sym ea) ∙ e ∙ ap (λ (l : Lit). l.code) eb)

    range_a : a.code < length watched
    range_a = code_within n watched s.lits.items 0 a h.lists range (omega arith) ea

    range_b : b.code < length watched
    range_b = code_within n watched s.lits.items 1 b h.lists range (omega arith) eb

    linked_at : (c : ℕ) → (c ≡ a.code) ⊎ (c ≡ a.code → ⊥) → (c ≡ b.code) ⊎ (c ≡ b.code → ⊥) → IsLinked (stands_at all_slots c) (get_or both_added c [])
    linked_at c (inl e) (inl f) = absurd (differ (sym e ∙ f))
    linked_at c (inl e) (inr g) = pushed_here c (h.linked c)
        (says c ∙ cond-true (eqb a.code c) (Some s.first) (cond (eqb b.code c) (Some s.second) None) (eq-eqb a.code c (sym e)) ∙ ap Some (ef ∙ ap (λ d. length (get_or watched d [])) (sym e)))
        (added_other (added watched a.code (id_at (length slots))) b.code c (id_at (length slots)) g
        ∙ subst (λ d. get_or (added watched a.code (id_at (length slots))) d [] ≡ get_or watched d [] ++ id_at (length slots) ∷ []) (sym e) (added_here watched a.code (id_at (length slots)) range_a))
    linked_at c (inr g) (inl f) = pushed_here c (h.linked c)
        (says c ∙ cond-false (eqb a.code c) (Some s.first) (cond (eqb b.code c) (Some s.second) None) (ne_eqb a.code c (λ e. g (sym e)))
        ∙ cond-true (eqb b.code c) (Some s.second) None (eq-eqb b.code c (sym f)) ∙ ap Some (es ∙ ap (λ d. length (get_or watched d [])) (sym f)))
        (subst (λ d. get_or both_added d [] ≡ get_or (added watched a.code (id_at (length slots))) d [] ++ id_at (length slots) ∷ []) (sym f)
        (added_here (added watched a.code (id_at (length slots))) b.code (id_at (length slots)) (let e : length (added watched a.code (id_at (length slots))) ≡ length watched = length_added watched a.code (id_at (length slots)) in omega (arith, range_b)))
        ∙ ap (λ ids. ids ++ id_at (length slots) ∷ []) (added_other watched a.code c (id_at (length slots)) g))
    linked_at c (inr g) (inr k) = pushed_not c (h.linked c)
        (says c ∙ cond-false (eqb a.code c) (Some s.first) (cond (eqb b.code c) (Some s.second) None) (ne_eqb a.code c (λ e. g (sym e))) ∙ cond-false (eqb b.code c) (Some s.second) None (ne_eqb b.code c (λ e. k (sym e))))
        (added_other (added watched a.code (id_at (length slots))) b.code c (id_at (length slots)) k ∙ added_other watched a.code c (id_at (length slots)) g)

pub arena_add : (n : ℕ) (slots all : List Slot) (watched after : List (List ClauseId)) (s : Slot) (a b : Lit) → IsArena n slots watched
    → all ≡ slots ++ s ∷ [] → after ≡ added (added watched a.code (id_at (length slots))) b.code (id_at (length slots))
    → length slots < 2 ^ 32 → 2 ≤ length s.lits.items → NoneTwice s.lits.items → IsInRange n s.lits.items
    → a ≡ get_or s.lits.items 0 a → b ≡ get_or s.lits.items 1 b → s.first ≡ length (get_or watched a.code []) → s.second ≡ length (get_or watched b.code [])
    → IsArena n all after
arena_add n slots all watched after s a b h e f short two once range ea eb ef es =
    subst (λ ss. IsArena n ss after) (sym e) (subst (IsArena n (slots ++ s ∷ [])) (sym f) (arena_push n slots watched s a b h short two once range ea eb ef es))

pub live_more : (slots : List Slot) (s : Slot) → 0 < length s.lits.items → live_from 0 (lits_of (slots ++ s ∷ [])) ≡ live_from 0 (lits_of slots) ++ record { place = length slots; lits = s.lits.items } ∷ []
live_more slots s h =
    ap (live_from 0) (map_push (λ (s : Slot). s.lits.items) slots s) ∙ live_push (lits_of slots) 0 s.lits.items h
    ∙ ap (λ k. live_from 0 (lits_of slots) ++ record { place = k; lits = s.lits.items } ∷ []) (let e : length (lits_of slots) ≡ length slots = length-map slots (λ (s : Slot). s.lits.items) in omega arith)

-- what callers see of an arena

pub seen_live : (n : ℕ) (cs : List (List Lit)) (s : Store) → record { variables = n; live = live_from 0 cs } ≡ s → live_from 0 cs ≡ s.live
seen_live n cs s e = ap (λ (t : Store). t.live) e

pub seen_variables : (n : ℕ) (cs : List (List Lit)) (s : Store) → record { variables = n; live = live_from 0 cs } ≡ s → n ≡ s.variables
seen_variables n cs s e = ap (λ (t : Store). t.variables) e

pub seen_differ : (n : ℕ) (cs : List (List Lit)) (s : Store) → record { variables = n; live = live_from 0 cs } ≡ s → IdsDiffer s.live
seen_differ n cs s e = subst IdsDiffer (seen_live n cs s e) (ids_differ cs)
