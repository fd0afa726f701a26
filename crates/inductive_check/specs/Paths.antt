-- Paths of a system of states in bits, which of them are bad, and what makes a system steady.
use Rattle.std.specs.Prelude.{◌≡◌, Bool, true, List, [], ◌∷◌, map}
use Rattle.clause_core.specs.declared.literal.Lit.{Lit}
use Rattle.clause_core.specs.Truth.{literal_true, all_true}
use Rattle.cnf_emit.specs.Systems.{System}

-- the bits that an assignment gives to a list of literals
abbrev pub bits : List Bool → List Lit → List Bool
bits a lits = map (literal_true a) lits

-- Steps one after the other: assignments of `step`, each from the state that the one before leaves,
-- and the first from a state of these bits.
abbrev pub AreSteps : System → List Bool → List (List Bool) → Type 0
AreSteps s from [] = Unit {0}
AreSteps s from (a ∷ more) =
    (all_true a s.step.clauses ≡ true) × (bits a s.current ≡ from) × AreSteps s (bits a s.next) more

-- A path: an assignment of `start`, and then steps, the first from the state of that start.
abbrev pub IsPath : System → List (List Bool) → Type 0
IsPath s [] = ⊥
IsPath s (a ∷ more) = (all_true a s.start.clauses ≡ true) × AreSteps s (bits a s.current) more

-- Whether the last of some steps leads to a bad state. Where there is no step, `so_far` says it.
abbrev pub leads_to_bad : System → Bool → List (List Bool) → Bool
leads_to_bad s so_far [] = so_far
leads_to_bad s so_far (a ∷ more) = leads_to_bad s (literal_true a s.bad_next) more

-- A path is bad where its last state is: by `bad` where it is a start alone, else by the `bad_next`
-- of its last step.
abbrev pub IsBadPath : System → List (List Bool) → Type 0
IsBadPath s [] = ⊥
IsBadPath s (a ∷ more) = IsPath s (a ∷ more) × (leads_to_bad s (literal_true a s.bad) more ≡ true)

-- A system is steady where what is bad before a step is bad as well where it is left: by each step
-- that leaves the same bits, and by each start that has the same bits.
pub record IsSteady (s : System) : Type 0 where
  pub after_step : (a b : List Bool) → all_true a s.step.clauses ≡ true → literal_true a s.bad ≡ true
      → all_true b s.step.clauses ≡ true → bits b s.next ≡ bits a s.current
      → literal_true b s.bad_next ≡ true
  pub after_start : (a b : List Bool) → all_true a s.step.clauses ≡ true → literal_true a s.bad ≡ true
      → all_true b s.start.clauses ≡ true → bits b s.current ≡ bits a s.current
      → literal_true b s.bad ≡ true
