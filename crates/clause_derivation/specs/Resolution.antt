-- Clauses as sets of literals, and the resolution rule.
use Rattle.std.specs.Prelude.{◌≡◌, ◌==◌, ◌++◌, ◌&&◌, ℕ, Bool, true, false, not, List, Option, Some, None, filter}
use Rattle.clause_core.specs.declared.literal.Lit.{Lit}
use Rattle.clause_core.specs.Literal.{positive, negative}
use Rattle.clause_core.specs.Members.{has}

-- all other literals of a clause
abbrev pub without : List Lit → Lit → List Lit
without c l = filter (λ k. not (k.code == l.code)) c

-- two clauses are one set of literals
abbrev pub IsSameSet : List Lit → List Lit → Type 0
IsSameSet c d = (l : Lit) → has c l ≡ has d l

-- Whether c has the literal l of a variable, and d the opposite one, m.
abbrev pub clash : List Lit → Lit → List Lit → Lit → Bool
clash c l d m = has c l && has d m

-- all literals of c but l, and all of d but m
abbrev pub others : List Lit → Lit → List Lit → Lit → List Lit
others c l d m = without c l ++ without d m

-- The clause of a step, by which of the two ways the clauses clash: as a set, all other literals of
-- both. It is no step where they clash in neither way, and none where they clash both ways.
abbrev pub chosen : Bool → Bool → List Lit → List Lit → Option (List Lit)
chosen true false forth back = Some forth
chosen false true forth back = Some back
chosen true true forth back = None
chosen false false forth back = None

-- The resolution step on the variable v: the current clause c has one literal of v, and d has the
-- opposite one. (The resolution rule.)
abbrev pub resolvent : ℕ → List Lit → List Lit → Option (List Lit)
resolvent v c d =
    chosen (clash c (positive v) d (negative v)) (clash c (negative v) d (positive v))
    (others c (positive v) d (negative v)) (others c (negative v) d (positive v))
