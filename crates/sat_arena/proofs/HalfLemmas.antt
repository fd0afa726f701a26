-- An arena while one clause changes: one or two watch lists are not linked yet.
use Rattle.std.proofs.Common.{◌≡◌, ℕ, ◌*◌, ◌^◌, ◌<◌, ◌≤◌, cond, List, [], ◌∷◌, ◌++◌, length, get_or, set, eqb, refl, sym, ◌∙◌, ap, subst, arith, inl, inr, ◌⊎◌, Some, None}
use Rattle.std.specs.Prelude.{All}
use Rattle.std.specs.List.{swap}
use Rattle.std.proofs.lemmas.Bool.{cases_eq, eq-eqb, ne_eqb, cond-true, cond-false}
use Rattle.std.proofs.lemmas.List.{length-set, get_or_default, get_or-set_same, get_or-set_other}
use Rattle.std.proofs.lemmas.List.Elements.{All-nil, All-set}
use Rattle.clause_core.specs.declared.literal.Lit.{Lit}
use Rattle.clause_core.specs.Literal.{variable_of}
use Rattle.sat_arena.specs.declared.id.ClauseId.{ClauseId}
use Rattle.sat_arena.specs.declared.slot.Slot.{Slot}
use Rattle.clause_core.specs.Members.{NoneTwice}
use Rattle.sat_arena.specs.Linking.{lits_of, position, stands_at, IsLinked, IsLinkedBut, IsKept, IsArena, position_in, added, says_swapped}
use Rattle.sat_arena.proofs.LinkLemmas.{id_at, linked_same, linked_push, linked_hidden, linked_within}
use Rattle.sat_arena.proofs.SlotLemmas.{lits_set, stands_here, stands_other, stands_is, stands_kept}
use Rattle.sat_arena.proofs.ClauseLemmas.{says_by, says_from, says_not, kept_swap, codes_differ, code_within}
use Rattle.sat_arena.proofs.ArenaLemmas.{added_here, added_other, length_added}
use Rattle.sat_arena.proofs.ReadLemmas.{lits_at, kept_at, length_lits}

-- all but the lists of the literals of codes x and y are linked
pub record IsHalf (n : ℕ) (slots : List Slot) (watched : List (List ClauseId)) (x y : ℕ) : Type 0 where
  few : n ≤ 2 ^ 31
  lists : length watched ≡ 2 * n
  places : length slots ≤ 2 ^ 32
  clauses : All (IsKept n) (lits_of slots)
  linked : (c : ℕ) → (c ≡ x → ⊥) → (c ≡ y → ⊥) → IsLinked (stands_at slots c) (get_or watched c [])

same_length : (slots after : List Slot) → lits_of after ≡ lits_of slots → length after ≡ length slots
same_length slots after e = sym (length_lits after) ∙ ap length e ∙ length_lits slots

-- one of two lists is linked again
pub half_drop : (n : ℕ) (slots after : List Slot) (watched now : List (List ClauseId)) (x y : ℕ) (ids : List ClauseId) → IsHalf n slots watched x y
    → lits_of after ≡ lits_of slots → now ≡ set watched x ids → x < length watched → IsLinked (stands_at after x) ids
    → ((c p : ℕ) → (x ≡ c → ⊥) → stands_at after c p ≡ stands_at slots c p) → IsHalf n after now y y
half_drop n slots after watched now x y ids h e f w l others = record {
  few = h.few;
  lists = ap length f ∙ length-set watched x ids ∙ h.lists;
  places = let g : length after ≡ length slots = same_length slots after e in omega (arith, h.places);
  clauses = subst (All (IsKept n)) (sym e) h.clauses;
  linked = λ c m k. subst (λ ws. IsLinked (stands_at after c) (get_or ws c [])) (sym f) (go c m (cases_eq c x));
} where
  go : (c : ℕ) → (c ≡ y → ⊥) → (c ≡ x) ⊎ (c ≡ x → ⊥) → IsLinked (stands_at after c) (get_or (set watched x ids) c [])
  go c m (inl g) = subst (λ d. IsLinked (stands_at after d) (get_or (set watched x ids) d [])) (sym g) (subst (IsLinked (stands_at after x)) (sym (get_or-set_same watched x ids [] w)) l)
  go c m (inr k) =
      subst (IsLinked (stands_at after c)) (sym (get_or-set_other watched x c ids [] k))
      (linked_same (stands_at slots c) (stands_at after c) (get_or watched c []) (λ p. others c p (λ g. k (sym g))) (h.linked c k m))

-- the last list is linked again
pub half_last : (n : ℕ) (slots after : List Slot) (watched now : List (List ClauseId)) (x : ℕ) (ids : List ClauseId) → IsHalf n slots watched x x
    → lits_of after ≡ lits_of slots → now ≡ set watched x ids → x < length watched → IsLinked (stands_at after x) ids
    → ((c p : ℕ) → (x ≡ c → ⊥) → stands_at after c p ≡ stands_at slots c p) → IsArena n after now
half_last n slots after watched now x ids h e f w l others = record {
  few = h.few;
  lists = ap length f ∙ length-set watched x ids ∙ h.lists;
  places = let g : length after ≡ length slots = same_length slots after e in omega (arith, h.places);
  clauses = subst (All (IsKept n)) (sym e) h.clauses;
  linked = λ c. subst (λ ws. IsLinked (stands_at after c) (get_or ws c [])) (sym f) (go c (cases_eq c x));
} where
  go : (c : ℕ) → (c ≡ x) ⊎ (c ≡ x → ⊥) → IsLinked (stands_at after c) (get_or (set watched x ids) c [])
  go c (inl g) = subst (λ d. IsLinked (stands_at after d) (get_or (set watched x ids) d [])) (sym g) (subst (IsLinked (stands_at after x)) (sym (get_or-set_same watched x ids [] w)) l)
  go c (inr k) =
      subst (IsLinked (stands_at after c)) (sym (get_or-set_other watched x c ids [] k))
      (linked_same (stands_at slots c) (stands_at after c) (get_or watched c []) (λ p. others c p (λ g. k (sym g))) (h.linked c k k))

-- a clause was taken out of its slot

kept_empty : (n : ℕ) → IsKept n []
kept_empty n = record { two = λ z. absurd (omega arith); once = λ l. omega arith; range = All-nil (λ (l : Lit). variable_of l < n) }

pub says_nothing : (c : ℕ) (t : Slot) → t.lits.items ≡ [] → position c t ≡ None
says_nothing c t e = ap (λ ls. position_in ls t.first t.second c) e

module _ (n : ℕ) (slots : List Slot) (watched : List (List ClauseId)) (h : IsArena n slots watched) (p : ℕ) (w : p < length slots) (s : Slot) (is : s ≡ get_or slots p s) where
  slot_kept : IsKept n s.lits.items
  slot_kept = subst (IsKept n) (lits_at slots p s w ∙ ap (λ (t : Slot). t.lits.items) (sym is)) (kept_at n slots watched h p w)

  pub slot_once : NoneTwice s.lits.items
  slot_once = slot_kept.once

  pub slot_code : (i : ℕ) (l : Lit) → i < length s.lits.items → l ≡ get_or s.lits.items i l → l.code < length watched
  slot_code i l k e = code_within n watched s.lits.items i l h.lists slot_kept.range k e

  says_now : (c : ℕ) → stands_at slots c p ≡ position c s
  says_now c = stands_is slots c p s w ∙ ap (position c) (sym is)

  module _ (long : 2 ≤ length s.lits.items) where
    says_watched : (from : ℕ) (l : Lit) → from < 2 → l ≡ get_or s.lits.items from l → stands_at slots l.code p ≡ Some (cond (eqb from 0) s.first s.second)
    says_watched from l f e =
        says_now l.code ∙ ap (λ (k : Lit). position k.code s) e ∙ says_from s.lits.items from s.first s.second l f long slot_once

    -- the clause stands where it says
    pub watch_within : (from : ℕ) (l : Lit) (ids : List ClauseId) → from < 2 → l ≡ get_or s.lits.items from l → ids ≡ get_or watched l.code [] → cond (eqb from 0) s.first s.second < length ids
    watch_within from l ids f e g =
        subst (λ xs. cond (eqb from 0) s.first s.second < length xs) (sym g)
        (linked_within (stands_at slots l.code) (get_or watched l.code []) p (cond (eqb from 0) s.first s.second) (h.linked l.code) (says_watched from l f e))

    -- a watched literal, of which the clause says nothing any more
    pub watch_hidden : (t : Slot) (from : ℕ) (l : Lit) (ids : List ClauseId) → from < 2 → l ≡ get_or s.lits.items from l → ids ≡ get_or watched l.code [] → position l.code t ≡ None
        → IsLinkedBut (stands_at (set slots p t) l.code) ids (cond (eqb from 0) s.first s.second)
    watch_hidden t from l ids f e g z =
        subst (λ xs. IsLinkedBut (stands_at (set slots p t) l.code) xs (cond (eqb from 0) s.first s.second)) (sym g)
        (linked_hidden (stands_at slots l.code) (stands_at (set slots p t) l.code) (get_or watched l.code []) p (cond (eqb from 0) s.first s.second)
        (h.linked l.code) (says_watched from l f e) (stands_here slots p l.code t w ∙ z) (λ q. stands_other slots p l.code q t))

    pub half_cleared : (t : Slot) (a b : Lit) → t.lits.items ≡ [] → a ≡ get_or s.lits.items 0 a → b ≡ get_or s.lits.items 1 b → IsHalf n (set slots p t) watched a.code b.code
    half_cleared t a b e ea eb = record {
      few = h.few;
      lists = h.lists;
      places = let g : length (set slots p t) ≡ length slots = length-set slots p t in omega (arith, h.places);
      clauses = subst (All (IsKept n)) (sym (lits_set slots p t ∙ ap (set (lits_of slots) p) e)) (All-set (IsKept n) (lits_of slots) p [] (kept_empty n) h.clauses);
      linked = λ c k m. linked_same (stands_at slots c) (stands_at (set slots p t) c) (get_or watched c [])
          (λ q. stands_kept slots p c q s t w (says_nothing c t e ∙ sym (none c k m) ∙ ap (position c) is)) (h.linked c);
    } where
      none : (c : ℕ) → (c ≡ a.code → ⊥) → (c ≡ b.code → ⊥) → position c s ≡ None
      none c k m =
          says_by s.lits.items s.first s.second c a b long
          ∙ cond-false (eqb (get_or s.lits.items 0 a).code c) (Some s.first) (cond (eqb (get_or s.lits.items 1 b).code c) (Some s.second) None) (ne_eqb (get_or s.lits.items 0 a).code c (λ e. k (sym (ap (λ (l : Lit). l.code) ea ∙ e))))
          ∙ cond-false (eqb (get_or s.lits.items 1 b).code c) (Some s.second) None (ne_eqb (get_or s.lits.items 1 b).code c (λ e. m (sym (ap (λ (l : Lit). l.code) eb ∙ e))))

    pub watched_differ : (a b : Lit) → a ≡ get_or s.lits.items 0 a → b ≡ get_or s.lits.items 1 b → a.code ≡ b.code → ⊥
    watched_differ a b ea eb e = codes_differ s.lits.items 0 1 a b slot_once (omega arith) (omega arith) (ap (λ (l : Lit). l.code) (sym ea) ∙ e ∙ ap (λ (l : Lit). l.code) eb)

    -- a watched literal and another one were swapped, and the clause stands in the list of that one
    module _ (t : Slot) (from to at : ℕ) (o m : Lit) (f : from < 2) (g : 2 ≤ to) (k : to < length s.lits.items) (eo : o ≡ get_or s.lits.items from o) (em : m ≡ get_or s.lits.items to m)
        (says : (d : Lit) (c : ℕ) → position c t ≡ says_swapped (get_or s.lits.items from d).code (get_or s.lits.items to d).code at c (position c s)) where
      says_codes : (c : ℕ) → position c t ≡ says_swapped o.code m.code at c (position c s)
      says_codes c =
          says o c
          ∙ ap (λ (l : Lit). says_swapped l.code (get_or s.lits.items to o).code at c (position c s)) (sym eo)
          ∙ ap (λ (l : Lit). says_swapped o.code l.code at c (position c s)) (get_or_default s.lits.items to o m k ∙ sym em)

      pub swapped_differ : o.code ≡ m.code → ⊥
      swapped_differ e = codes_differ s.lits.items from to o m slot_once (omega arith) k (ap (λ (l : Lit). l.code) (sym eo) ∙ e ∙ ap (λ (l : Lit). l.code) em)

      pub swapped_hidden : position o.code t ≡ None
      swapped_hidden =
          says_codes o.code
          ∙ cond-false (eqb m.code o.code) (Some at) (cond (eqb o.code o.code) None (position o.code s)) (ne_eqb m.code o.code (λ e. swapped_differ (sym e)))
          ∙ cond-true (eqb o.code o.code) None (position o.code s) (eq-eqb o.code o.code refl)

      pub half_swapped : (now : List (List ClauseId)) → now ≡ added watched m.code (id_at p) → at ≡ length (get_or watched m.code []) → t.lits.items ≡ swap s.lits.items from to → IsHalf n (set slots p t) now o.code o.code
      half_swapped now e l z = record {
        few = h.few;
        lists = ap length e ∙ length_added watched m.code (id_at p) ∙ h.lists;
        places = let q : length (set slots p t) ≡ length slots = length-set slots p t in omega (arith, h.places);
        clauses = subst (All (IsKept n)) (sym (lits_set slots p t)) (All-set (IsKept n) (lits_of slots) p t.lits.items (subst (IsKept n) (sym z) (kept_swap n s.lits.items from to (omega arith) k slot_kept)) h.clauses);
        linked = λ c x y. subst (λ ws. IsLinked (stands_at (set slots p t) c) (get_or ws c [])) (sym e) (go c x (cases_eq c m.code));
      } where
        at_new : IsLinked (stands_at (set slots p t) m.code) (get_or watched m.code [] ++ id_at p ∷ [])
        at_new = linked_push (stands_at slots m.code) (stands_at (set slots p t) m.code) (get_or watched m.code []) p (h.linked m.code)
            (says_now m.code ∙ ap (λ (l : Lit). position l.code s) em ∙ says_not s.lits.items to s.first s.second m g k slot_once)
            (stands_here slots p m.code t w ∙ says_codes m.code ∙ cond-true (eqb m.code m.code) (Some at) (cond (eqb o.code m.code) None (position m.code s)) (eq-eqb m.code m.code refl) ∙ ap Some l)
            (λ q. stands_other slots p m.code q t)

        go : (c : ℕ) → (c ≡ o.code → ⊥) → (c ≡ m.code) ⊎ (c ≡ m.code → ⊥) → IsLinked (stands_at (set slots p t) c) (get_or (added watched m.code (id_at p)) c [])
        go c x (inl y) =
            subst (λ d. IsLinked (stands_at (set slots p t) d) (get_or (added watched m.code (id_at p)) d [])) (sym y)
            (subst (IsLinked (stands_at (set slots p t) m.code)) (sym (added_here watched m.code (id_at p) (slot_code to m k em))) at_new)
        go c x (inr y) =
            subst (IsLinked (stands_at (set slots p t) c)) (sym (added_other watched m.code c (id_at p) y))
            (linked_same (stands_at slots c) (stands_at (set slots p t) c) (get_or watched c [])
            (λ q. stands_kept slots p c q s t w
            (says_codes c
            ∙ cond-false (eqb m.code c) (Some at) (cond (eqb o.code c) None (position c s)) (ne_eqb m.code c (λ r. y (sym r)))
            ∙ cond-false (eqb o.code c) None (position c s) (ne_eqb o.code c (λ r. x (sym r)))
            ∙ ap (position c) is))
            (h.linked c))
