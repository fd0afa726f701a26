-- The live clauses of an arena, as callers see them.
use Rattle.std.specs.Prelude.{◌==◌, ◌≤◌, if◌then◌else◌, ℕ, Bool, not, IsTrue, List, [], ◌∷◌, take, map, filter, count_by}
use Rattle.std.specs.List.{list_any, swap}
use Rattle.clause_core.specs.declared.literal.Lit.{Lit}
use Rattle.sat_arena.specs.declared.id.ClauseId.{ClauseId}

-- a live clause: the place that its id names, and its literals
pub record Entry : Type 0 where
  pub place : ℕ
  pub lits : List Lit

-- an arena: the number of variables, and the live clauses in the order of adding
pub record Store : Type 0 where
  pub variables : ℕ
  pub live : List Entry

-- a live clause has this id
abbrev pub IsLive : List Entry → ClauseId → Type 0
IsLive live id = IsTrue (list_any (λ e. e.place == id.place) live)

-- no two live clauses have the same id
abbrev pub IdsDiffer : List Entry → Type 0
IdsDiffer live = (id : ClauseId) → count_by (λ e. e.place == id.place) live ≤ 1

-- the literals of the live clause that has this id, and none where no live clause has it
abbrev pub literals : List Entry → ClauseId → List Lit
literals [] id = []
literals (e ∷ es) id = if e.place == id.place then e.lits else literals es id

-- whether the live clause that has this id is watched at a literal: its first or its second one
abbrev pub is_watched : List Entry → ClauseId → Lit → Bool
is_watched live id l = list_any (λ k. k.code == l.code) (take 2 (literals live id))

-- how often an id stands in a watch list
abbrev pub times_listed : ClauseId → List ClauseId → ℕ
times_listed id ids = count_by (λ k. k.place == id.place) ids

-- all live clauses but the one that has this id
abbrev pub without : List Entry → ClauseId → List Entry
without live id = filter (λ e. not (e.place == id.place)) live

-- the live clauses, of which the one that has this id has two of its literals swapped
abbrev pub with_swapped : List Entry → ClauseId → ℕ → ℕ → List Entry
with_swapped live id from to =
    map (λ e. if e.place == id.place then record { place = e.place; lits = swap e.lits from to } else e) live

-- the literals of all live clauses, in order
abbrev pub clauses_of : List Entry → List (List Lit)
clauses_of live = map (λ e. e.lits) live

-- The new id of a clause after the live clauses have got new places: the k-th of old is the k-th of
-- new. An id that no clause of old has stays.
abbrev pub renamed : List Entry → List Entry → ClauseId → ClauseId
renamed [] new id = id
renamed (e ∷ es) [] id = id
renamed (e ∷ es) (f ∷ fs) id = if e.place == id.place then record { place = f.place } else renamed es fs id
