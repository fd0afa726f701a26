-- What the steps of the code find out.
use Rattle.std.specs.Prelude.{◌≡◌, ℕ, suc, ◌+◌, List, Option, None, Some}
use Rattle.other_abstract.specs.declared.machine.AbstractMachine.{AbstractMachine}
use Rattle.other_abstract.specs.declared.state.AbsStep.{AbsStep}
use Rattle.other_abstract.specs.May.{AbsCells}
use Rattle.other_abstract.specs.Machines.{IsClean}
use Rattle.abstract_replay.specs.Paths.{AreAllowed, IsFirstBroken, IsFirstViolated}

-- the first of these steps that is not allowed, counted from 1, or none
abbrev pub BrokenIs : AbstractMachine → AbsCells → List AbsStep → Option ℕ → Type 0
BrokenIs M s steps None = AreAllowed M s steps
BrokenIs M s steps (Some k) = (j : ℕ) × (k ≡ suc j) × IsFirstBroken M s steps j

-- the first formula that a state violates, or none
abbrev pub ViolatedIs : AbstractMachine → AbsCells → Option ℕ → Type 0
ViolatedIs M s None = IsClean M s
ViolatedIs M s (Some k) = IsFirstViolated M s k

-- so many of these steps are gone, and all were allowed: what is found of the rest holds of all
pub record IsReached (M : AbstractMachine) (s : AbsCells) (steps : List AbsStep) (gone : ℕ) (t : AbsCells)
    (rest : List AbsStep) : Type 0 where
  pub allowed : AreAllowed M t rest → AreAllowed M s steps
  pub broken : (j : ℕ) → IsFirstBroken M t rest j → IsFirstBroken M s steps (gone + j)
