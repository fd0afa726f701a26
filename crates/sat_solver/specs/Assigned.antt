-- The literals that a solver has made true, in order, and what it finds in a clause under them.
use Rattle.std.specs.Prelude.{◌≡◌, ◌==◌, ◌*◌, ◌≤◌, ◌^◌, ◌++◌, if◌then◌else◌, ℕ, Bool, true, false, List, [], ◌∷◌, length, map, All, Option, Some, None, IfSome, IsSomeAnd, count_by, not}
use Rattle.clause_core.specs.declared.literal.Lit.{Lit}
use Rattle.clause_core.specs.Literal.{opposite}
use Rattle.clause_derivation.specs.Marking.{mark_of}
use Rattle.clause_core.specs.Members.{has, times}
use Rattle.sat_solver.specs.declared.origin.Origin.{Origin}
use Rattle.sat_solver.specs.declared.entry.Entry.{Entry}
use Rattle.sat_solver.specs.declared.scan.Found.{Found}
use Rattle.sat_solver.specs.declared.scan.Found.TheVariants.{Open, Forced, Conflict}
use Rattle.sat_solver.specs.Naming.{IsKnown}

-- what callers see of a trail: the number of variables, the literals made true in order, each with
-- its reason, and how many there were when each decision level was opened
pub record Path : Type 0 where
  pub variables : ℕ
  pub entries : List Entry
  pub starts : List ℕ

-- the literals that are true
abbrev pub literals_of : List Entry → List Lit
literals_of entries = map (λ e. e.lit) entries

-- a literal is false where the opposite one is among the true ones
abbrev pub is_false : List Lit → Lit → Bool
is_false true_ones l = has true_ones (opposite l)

-- the reason of the first entry that has this literal, if it has one
abbrev pub reason_in : List Entry → Lit → Option Origin
reason_in [] l = None
reason_in (e ∷ es) l = if e.lit.code == l.code then e.reason else reason_in es l

-- What the fields of a trail keep: there is a value for each literal, each true one stands on the
-- trail once and no other does, and no literal is true together with its opposite.
pub record IsTrail (variables : ℕ) (entries : List Entry) (values : List Bool) : Type 0 where
  pub few : variables ≤ 2 ^ 31
  pub places : length values ≡ 2 * variables
  pub once : (l : Lit) → times l (literals_of entries) ≡ (if mark_of values l then 1 else 0)
  pub consistent : (l : Lit) → mark_of values l ≡ true → mark_of values (opposite l) ≡ false
  pub count : count_by (λ b. b) values ≡ length entries

-- an entry whose reason, if it has one, is a known clause
abbrev pub IsReasoned : ℕ → ℕ → Entry → Type 0
IsReasoned n k e = IfSome e.reason (IsKnown n k)

-- an entry whose reason is a known clause
abbrev pub IsImplied : ℕ → ℕ → Entry → Type 0
IsImplied n k e = IsSomeAnd e.reason (IsKnown n k)

-- new is old with implied entries after it
abbrev pub Grows : ℕ → ℕ → List Entry → List Entry → Type 0
Grows n k old new = (more : List Entry) × (new ≡ old ++ more) × All (IsImplied n k) more

-- each literal of a clause is false
abbrev pub AllFalse : List Lit → List Lit → Type 0
AllFalse true_ones c = All (λ l. is_false true_ones l ≡ true) c

-- the clause has l, which has no value, and all its other literals are false
pub record IsUnit (true_ones c : List Lit) (l : Lit) : Type 0 where
  pub own : has c l ≡ true
  pub free : has true_ones l ≡ false
  pub not_false : is_false true_ones l ≡ false
  pub others : All (λ k. (k.code == l.code) ≡ false → is_false true_ones k ≡ true) c

-- the clause forces nothing, and not all of its literals are false
pub record IsOpen (true_ones c : List Lit) : Type 0 where
  pub not_forcing : (l : Lit) → IsUnit true_ones c l → ⊥
  pub not_false : AllFalse true_ones c → ⊥

-- whether a literal is not the one that is free, where one is
abbrev pub differs : Option Lit → Lit → Bool
differs None l = false
differs (Some k) l = not (k.code == l.code)

-- what a clause is under the true literals
abbrev pub Says : List Lit → List Lit → Found → Type 0
Says true_ones c Open = IsOpen true_ones c
Says true_ones c (Forced l) = IsUnit true_ones c l
Says true_ones c Conflict = AllFalse true_ones c
