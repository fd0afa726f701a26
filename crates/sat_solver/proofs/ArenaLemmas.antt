-- Live clauses after a clause was added, or two literals of one were swapped.
use Rattle.std.proofs.Common.{◌≡◌, ℕ, ◌||◌, ◌<◌, ◌++◌, length, get_or, set, arith, Bool, true, false, List, [], ◌∷◌, eqb, refl, sym, ◌∙◌, ap, inl, inr}
use Rattle.std.specs.Prelude.{if◌then◌else◌}
use Rattle.std.specs.List.{list_any, swap}
use Rattle.std.proofs.lemmas.Bool.{cases_Bool, or_right, or_left, eq-eqb}
use Rattle.std.proofs.lemmas.List.{get_or-set_same, get_or-set_other}
use Rattle.std.proofs.lemmas.List.Edits.{swap_is}
use Rattle.std.proofs.lemmas.List.Folds.{list_any-append}
use Rattle.clause_core.specs.declared.literal.Lit.{Lit}
use Rattle.sat_arena.specs.declared.id.ClauseId.{ClauseId}
use Rattle.sat_arena.specs.Live.{Entry, IsLive, literals, with_swapped}

same_place : (e : Entry) (n : ℕ) (ls : List Lit) (b : Bool) → (if b then record { place = e.place; lits = ls } else e).place ≡ e.place
same_place e n ls true = refl
same_place e n ls false = refl

any_swapped : (live : List Entry) (id : ClauseId) (from to n : ℕ) → list_any (λ (e : Entry). eqb e.place n) (with_swapped live id from to) ≡ list_any (λ (e : Entry). eqb e.place n) live
any_swapped [] id from to n = refl
any_swapped (e ∷ es) id from to n =
    ap (λ p. eqb p n || list_any (λ (x : Entry). eqb x.place n) (with_swapped es id from to)) (same_place e n (swap e.lits from to) (eqb e.place id.place))
    ∙ ap (λ b. eqb e.place n || b) (any_swapped es id from to n)

-- what is live stays live
pub live_swapped : (live : List Entry) (id : ClauseId) (from to : ℕ) (k : ClauseId) → IsLive live k → IsLive (with_swapped live id from to) k
live_swapped live id from to k h = any_swapped live id from to k.place ∙ h

-- a clause that was added is live
pub live_added : (live : List Entry) (id : ClauseId) (ls : List Lit) → IsLive (live ++ record { place = id.place; lits = ls } ∷ []) id
live_added live id ls =
    list_any-append (λ (e : Entry). eqb e.place id.place) live (record { place = id.place; lits = ls } ∷ [])
    ∙ or_right (list_any (λ (e : Entry). eqb e.place id.place) live) (eqb id.place id.place || false) (or_left (eqb id.place id.place) false (eq-eqb id.place id.place refl))

literals_cons : (e : Entry) (es : List Entry) (id : ClauseId) (b : Bool) → eqb e.place id.place ≡ b → literals (e ∷ es) id ≡ (if b then e.lits else literals es id)
literals_cons e es id b h = ap (λ v. if v then e.lits else literals es id) h

-- the literals of the clause of which two were swapped
literals_swapped : (live : List Entry) (id : ClauseId) (from to : ℕ) → literals (with_swapped live id from to) id ≡ swap (literals live id) from to
literals_swapped [] id from to = refl
literals_swapped (e ∷ es) id from to = elim (cases_Bool (eqb e.place id.place)) [
  | inl t ↦ rw (t, t) refl
  | inr f ↦ rw (f, f) (literals_swapped es id from to)
]

-- the literal that comes to the place of the first one
pub swapped_in : (live : List Entry) (id : ClauseId) (from to : ℕ) (d : Lit) → from < length (literals live id) → to < length (literals live id) → from < to → get_or (literals (with_swapped live id from to) id) from d ≡ get_or (literals live id) to d
swapped_in live id from to d h k less =
    let xs = literals live id in
    ap (λ ys. get_or ys from d) (literals_swapped live id from to ∙ sym (swap_is xs from to d h k))
    ∙ get_or-set_other (set xs from (get_or xs to d)) to from (get_or xs from d) d (λ e. absurd (omega arith))
    ∙ get_or-set_same xs from (get_or xs to d) d h
