-- Sets of literals kept as one mark for each literal, at the place of its code.
use Rattle.std.specs.Prelude.{◌≡◌, ◌==◌, ◌<◌, ◌&&◌, if◌then◌else◌, ℕ, Bool, true, false, not, List, Option, Some, None, All}
use Rattle.std.specs.List.{slice_index_or}
use Rattle.clause_core.specs.declared.literal.Lit.{Lit}
use Rattle.clause_core.specs.Members.{has}

-- whether a literal is marked
abbrev pub mark_of : List Bool → Lit → Bool
mark_of m l = slice_index_or m l.code false

-- the marked literals are those of a clause
abbrev pub AreMarks : List Bool → List Lit → Type 0
AreMarks m c = (l : Lit) → mark_of m l ≡ has c l

-- no literal is marked
abbrev pub IsClear : List Bool → Type 0
IsClear m = (l : Lit) → mark_of m l ≡ false

-- no literal but these is marked
abbrev pub AreWithin : List Bool → List Lit → Type 0
AreWithin m c = (l : Lit) → mark_of m l ≡ true → has c l ≡ true

-- n places have one for each literal of a clause
abbrev pub HavePlaces : ℕ → List Lit → Type 0
HavePlaces n c = All (λ l. l.code < n) c

-- one literal loses its mark, and no other does
abbrev pub LosesMark : List Bool → List Bool → Lit → Type 0
LosesMark old new l = (k : Lit) → mark_of new k ≡ (if l.code == k.code then false else mark_of old k)

-- What a step leaves: the marks of the clause that it gives, or the marks as they were.
abbrev pub Stepped : List Bool → List Bool → Option (List Lit) → Bool → Type 0
Stepped old new (Some c) true = AreMarks new c
Stepped old new (Some c) false = ⊥
Stepped old new None true = ⊥
Stepped old new None false = new ≡ old

-- What the steps of a chain leave: the marks of the clause that they end in, if there is one.
abbrev pub Ended : List Bool → Option (List Lit) → Bool → Type 0
Ended new (Some c) true = AreMarks new c
Ended new (Some c) false = ⊥
Ended new None true = ⊥
Ended new None false = Unit {0}

-- The literals lose their marks, and r says whether none had one.
pub record Unmarks (old new : List Bool) (lits : List Lit) (r : Bool) : Type 0 where
  pub cleared : (l : Lit) → mark_of new l ≡ (mark_of old l && not (has lits l))
  pub clean : r ≡ true → (l : Lit) → has lits l ≡ true → mark_of old l ≡ false
  pub found : ((l : Lit) → has lits l ≡ true → mark_of old l ≡ false) → r ≡ true
