-- How the slots of an arena and its watch lists belong together.
use Rattle.std.specs.Prelude.{◌≡◌, ◌==◌, ◌+◌, ◌*◌, ◌^◌, ◌<◌, ◌≤◌, ◌↔◌, if◌then◌else◌, ℕ, Bool, not, List, [], ◌∷◌, ◌++◌, length, map, All, Option, Some, None, slice_get, slice_set}
use Rattle.std.specs.List.{slice_index_or}
use Rattle.std.specs.Option.{option_and_then}
use Rattle.clause_core.specs.declared.literal.Lit.{Lit}
use Rattle.clause_core.specs.Formula.{IsInRange}
use Rattle.sat_arena.specs.declared.id.ClauseId.{ClauseId}
use Rattle.sat_arena.specs.declared.slot.Slot.{Slot}
use Rattle.sat_arena.specs.Live.{Entry}
use Rattle.clause_core.specs.Members.{NoneTwice}

-- the literals of each slot; a slot without literals is empty
abbrev pub lits_of : List Slot → List (List Lit)
lits_of slots = map (λ s. s.lits.items) slots

-- the clause of the slot at place p, if it is not empty, before those of later slots
abbrev pub before : ℕ → List Lit → List Entry → List Entry
before p [] rest = rest
before p (l ∷ ls) rest = record { place = p; lits = l ∷ ls } ∷ rest

-- the live clauses of slots that have these literals, the first of which is at place p
abbrev pub live_from : ℕ → List (List Lit) → List Entry
live_from p [] = []
live_from p (c ∷ cs) = before p c (live_from (p + 1) cs)

-- the position in the watch list of the literal of code c at which a clause says that it stands:
-- `first` or `second`, by which of its first two literals that is
abbrev pub position_in : List Lit → ℕ → ℕ → ℕ → Option ℕ
position_in [] first second c = None
position_in (a ∷ []) first second c = None
position_in (a ∷ b ∷ ls) first second c =
    if a.code == c then Some first else (if b.code == c then Some second else None)

abbrev pub position : ℕ → Slot → Option ℕ
position c s = position_in s.lits.items s.first s.second c

-- the same for the clause at place p, if there is one
abbrev pub stands_at : List Slot → ℕ → ℕ → Option ℕ
stands_at slots c p = option_and_then (position c) (slice_get slots p)

-- Both ways: where the clause at place p says that it stands at position i of a watch list, there
-- stands its id, and each id in the list stands where its clause says.
pub record IsLinked (says : ℕ → Option ℕ) (ids : List ClauseId) : Type 0 where
  pub both : (p i : ℕ) → (says p ≡ Some i) ↔ (slice_get ids i ≡ Some (record { place = p }))

-- the same but for the id at one position, at which no clause says that it stands
pub record IsLinkedBut (says : ℕ → Option ℕ) (ids : List ClauseId) (at : ℕ) : Type 0 where
  pub both : (p i : ℕ) → (says p ≡ Some i) ↔ ((slice_get ids i ≡ Some (record { place = p })) × (i ≡ at → ⊥))

-- a slot is empty, or its clause has at least two literals, none twice, with variables in range
pub record IsKept (variables : ℕ) (c : List Lit) : Type 0 where
  pub two : 0 < length c → 2 ≤ length c
  pub once : NoneTwice c
  pub range : IsInRange variables c

-- What the fields of an arena keep: there is a watch list for each literal, each place has 32 bits,
-- the slots are as said, and each watch list is linked with them.
pub record IsArena (variables : ℕ) (slots : List Slot) (watched : List (List ClauseId)) : Type 0 where
  pub few : variables ≤ 2 ^ 31
  pub lists : length watched ≡ 2 * variables
  pub places : length slots ≤ 2 ^ 32
  pub clauses : All (IsKept variables) (lits_of slots)
  pub linked : (c : ℕ) → IsLinked (stands_at slots c) (slice_index_or watched c [])

-- the place that the next clause gets, after one that gets place n or after an empty slot
abbrev pub next_place : ℕ → List Lit → ℕ
next_place n [] = n
next_place n (l ∷ ls) = n + 1

-- the places that clauses get where the empty slots between them go, from n on
abbrev pub places_from : ℕ → List (List Lit) → List ℕ
places_from n [] = []
places_from n (c ∷ cs) = n ∷ places_from (next_place n c) cs

-- the slots, each of which says the place that its clause gets
abbrev pub numbered : ℕ → List Slot → List Slot
numbered n [] = []
numbered n (s ∷ ss) = record s { moved = n } ∷ numbered (next_place n s.lits.items) ss

-- the places that slots say
abbrev pub moved_of : List Slot → List ℕ
moved_of slots = map (λ s. s.moved) slots

-- the id at the place that is said for its own
abbrev pub moved_id : List ℕ → ClauseId → ClauseId
moved_id places id = record { place = slice_index_or places id.place 0 }

-- whether a slot holds a clause
abbrev pub holds_clause : Slot → Bool
holds_clause s = not (length s.lits.items == 0)

-- the watch lists, of which the one of the literal of code c has one more id at its end
abbrev pub added : List (List ClauseId) → ℕ → ClauseId → List (List ClauseId)
added watched c id = slice_set watched c (slice_index_or watched c [] ++ id ∷ [])

-- what a clause says of the literal of code c after its watched literal of code `old` was swapped with
-- the one of code `new`, in whose watch list it stands at `at`; before it said `was`
abbrev pub says_swapped : ℕ → ℕ → ℕ → ℕ → Option ℕ → Option ℕ
says_swapped old new at c was = if new == c then Some at else (if old == c then None else was)
