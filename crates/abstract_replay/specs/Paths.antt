-- Paths of an abstract machine, and what they come to.
use Rattle.std.specs.Prelude.{◌≡◌, ◌<◌, ⊤, ◌⊎◌, ℕ, zero, suc, List, [], ◌∷◌, length, Some, slice_get}
use Rattle.term_core.specs.declared.machine.TermRule.{TermRule}
use Rattle.lemma_strengthen.specs.declared.formula.Formula.{Formula}
use Rattle.other_abstract.specs.declared.machine.AbstractMachine.{AbstractMachine}
use Rattle.other_abstract.specs.declared.state.AbsStep.{AbsStep}
use Rattle.other_abstract.specs.May.{AbsCells}
use Rattle.other_abstract.specs.Machines.{window, fired_of, IsPattern, FitsWindow, AbsStarts, AbsFires, Violates, MayFault, IsClean}
use Rattle.abstract_replay.specs.declared.path.Path.{Path}
use Rattle.abstract_replay.specs.declared.path.ReplayEnd.{ReplayEnd}
use Rattle.abstract_replay.specs.declared.path.ReplayEnd.TheVariants.{Broken, Violates as EndsViolating, Clean}

-- a step speaks of a rule of the machine, its pattern fits that rule, its wide state the window of that
-- pattern, and the state after it the kept nodes
pub record StepFits (M : AbstractMachine) (step : AbsStep) : Type 0 where
  pub rule : step.rule < length M.machine.rules
  pub pattern : (r : TermRule) → slice_get M.machine.rules step.rule ≡ Some r → IsPattern M.kept r step.pattern
  pub wide : FitsWindow (window M (fired_of step.pattern)) step.wide.values
  pub to : FitsWindow (window M 0) step.to.values

-- the same of a path: its start, and each of its steps
pub record PathFits (M : AbstractMachine) (path : Path) : Type 0 where
  pub start : path.start < length M.machine.starts
  pub pattern : (r : TermRule) → slice_get M.machine.starts path.start ≡ Some r → IsPattern M.kept r path.pattern
  pub first : FitsWindow (window M 0) path.first.values
  pub steps : (k : ℕ) (step : AbsStep) → slice_get path.steps k ≡ Some step → StepFits M step

-- the state after these steps
abbrev pub state_after : AbsCells → List AbsStep → AbsCells
state_after s [] = s
state_after s (step ∷ steps) = state_after step.to.values steps

-- the machine allows a step from a state
abbrev pub IsAllowed : AbstractMachine → AbsCells → AbsStep → Type 0
IsAllowed M s step = AbsFires M s step.rule step.pattern step.wide.values step.to.values

-- the machine allows each of these steps, the first from this state
abbrev pub AreAllowed : AbstractMachine → AbsCells → List AbsStep → Type 0
AreAllowed M s [] = ⊤
AreAllowed M s (step ∷ steps) = IsAllowed M s step × AreAllowed M step.to.values steps

-- of these steps the one with this number, counted from 0, is the first that the machine does not allow
abbrev pub IsFirstBroken : AbstractMachine → AbsCells → List AbsStep → ℕ → Type 0
IsFirstBroken M s [] k = ⊥
IsFirstBroken M s (step ∷ steps) zero = IsAllowed M s step → ⊥
IsFirstBroken M s (step ∷ steps) (suc k) = IsAllowed M s step × IsFirstBroken M step.to.values steps k

-- the start of a path is one of the machine
abbrev pub Begins : AbstractMachine → Path → Type 0
Begins M path = AbsStarts M path.start path.pattern path.first.values

abbrev pub last_state : Path → AbsCells
last_state path = state_after path.first.values path.steps

-- of the start and the steps of a path, the start being 0, this is the first that the machine does not
-- allow
abbrev pub IsBroken : AbstractMachine → Path → ℕ → Type 0
IsBroken M path zero = Begins M path → ⊥
IsBroken M path (suc k) = Begins M path × IsFirstBroken M path.first.values path.steps k

-- the path is a run of the machine
abbrev pub IsRun : AbstractMachine → Path → Type 0
IsRun M path = Begins M path × AreAllowed M path.first.values path.steps

-- of the formulas this is the first that a state violates
pub record IsFirstViolated (M : AbstractMachine) (s : AbsCells) (k : ℕ) : Type 0 where
  pub formula : Formula
  pub there : slice_get M.formulas k ≡ Some formula
  pub violated : Violates M s formula
  pub earlier : (j : ℕ) (f : Formula) → j < k → slice_get M.formulas j ≡ Some f → Violates M s f → ⊥

-- a path without steps, a piece of whose start may be false
pub record StartFaults (M : AbstractMachine) (path : Path) : Type 0 where
  pub alone : path.steps ≡ []
  pub rule : TermRule
  pub there : slice_get M.machine.starts path.start ≡ Some rule
  pub faults : MayFault M rule path.pattern

-- what a run comes to: the first formula that its last state violates, a fault of its start after all
-- others, or else nothing
abbrev pub IsJudged : AbstractMachine → Path → ReplayEnd → Type 0
IsJudged M path (Broken k) = ⊥
IsJudged M path (EndsViolating k) = IsFirstViolated M (last_state path) k
    ⊎ ((k ≡ length M.formulas) × IsClean M (last_state path) × StartFaults M path)
IsJudged M path Clean = IsClean M (last_state path) × (StartFaults M path → ⊥)

-- what a path comes to: its first step that is not allowed, or else what the run comes to
abbrev pub ComesTo : AbstractMachine → Path → ReplayEnd → Type 0
ComesTo M path (Broken k) = IsBroken M path k
ComesTo M path (EndsViolating k) = IsRun M path × IsJudged M path (EndsViolating k)
ComesTo M path Clean = IsRun M path × IsJudged M path Clean
