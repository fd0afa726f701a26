-- What an assignment of the bits codes, and whether it is of a start or of a step.
use Rattle.std.specs.Prelude.{◌≡◌, ℕ, Bool, false, ◌&&◌, ◌||◌, List, length, Some, slice_get, IsTrue}
use Rattle.std.specs.List.{list_any}
use Rattle.std.specs.Option.{option_map_or}
use Rattle.term_core.specs.Values.{same_truth}
use Rattle.term_core.specs.declared.machine.TermRule.{TermRule}
use Rattle.lemma_strengthen.specs.declared.formula.Formula.{Formula}
use Rattle.other_abstract.specs.declared.node.AbsNode.{AbsNode}
use Rattle.other_abstract.specs.declared.machine.AbstractMachine.{AbstractMachine}
use Rattle.other_abstract.specs.May.{AbsCells}
use Rattle.other_abstract.specs.Tests.{may_fail}
use Rattle.other_abstract.specs.Machines.{window, fired_of, Violates}
use Rattle.other_abstract.specs.Stepping.{is_step, is_start, may_fault}
use Rattle.bit_encode.specs.Codes.{width, number_of, bits_at, coded_state, is_legal}
use Rattle.bit_layout.specs.declared.choice.Choice.{Choice}
use Rattle.bit_layout.specs.Choices.{step_choices, start_choices, passes_at}
use Rattle.bit_layout.specs.Layout.{lists_in, bad_place, start_choice_place, next_place, window_place, step_choice_place, bad_next_place}

-- The bits from this place on are the legal code of a state of the window with so many fired nodes.
pub record CodesState (M : AbstractMachine) (x : ℕ → Bool) (place fired : ℕ) (w : AbsCells) : Type 0 where
  pub legal : IsTrue (is_legal x place (lists_in M fired))
  pub state : coded_state x place (lists_in M fired) ≡ w

-- the position that the bits from this place on code, among choices
abbrev pub choice_at : (ℕ → Bool) → ℕ → List Choice → ℕ
choice_at x place choices = number_of (bits_at x place (width (length choices)))

-- The bits from this place on code a choice.
abbrev pub CodesChoice : (ℕ → Bool) → ℕ → List Choice → ℕ → List AbsNode → Type 0
CodesChoice x place choices k p = slice_get choices (choice_at x place choices) ≡ Some (record { number = k; pattern = p })

-- An assignment codes a start: its number, its pattern, and the kept state that it leaves.
pub record CodesStart (M : AbstractMachine) (x : ℕ → Bool) (k : ℕ) (p : List AbsNode) (t : AbsCells) : Type 0 where
  pub choice : CodesChoice x (start_choice_place M) (start_choices M) k p
  pub to : CodesState M x 0 0 t

-- An assignment codes a step: the kept state before it, the rule, its pattern, the state of the window of the pattern, and
-- the kept state after it.
pub record CodesStep (M : AbstractMachine) (x : ℕ → Bool) (s : AbsCells) (k : ℕ) (p : List AbsNode) (w t : AbsCells) : Type 0 where
  pub from : CodesState M x 0 0 s
  pub choice : CodesChoice x (step_choice_place M) (step_choices M) k p
  pub wide : CodesState M x (window_place M (fired_of p)) (fired_of p) w
  pub to : CodesState M x (next_place M) 0 t

-- a kept state violates some formula
abbrev pub IsBad : AbstractMachine → AbsCells → Type 0
IsBad M s = (k : ℕ) × (f : Formula) × (slice_get M.formulas k ≡ Some f) × Violates M s f

-- The same, computed.

-- whether some formula may be false for some kept nodes
abbrev pub is_bad : AbstractMachine → AbsCells → Bool
is_bad M s = list_any (λ (f : Formula). may_fail (window M 0) s f.prefix f.body) M.formulas

-- whether a start may leave the coded state
abbrev pub may_start : AbstractMachine → (ℕ → Bool) → Choice → Bool
may_start M x c =
    option_map_or (λ (r : TermRule). is_start M r c.pattern (coded_state x 0 (lists_in M 0))) (slice_get M.machine.starts c.number) false

-- whether the code of the choice's window is legal, and firing its rule may lead from the coded state to the next by it
abbrev pub may_step : AbstractMachine → (ℕ → Bool) → Choice → Bool
may_step M x c =
    is_legal x (window_place M (fired_of c.pattern)) (lists_in M (fired_of c.pattern))
    && option_map_or
    (λ (r : TermRule). is_step M (coded_state x 0 (lists_in M 0)) r c.pattern
    (coded_state x (window_place M (fired_of c.pattern)) (lists_in M (fired_of c.pattern)))
    (coded_state x (next_place M) (lists_in M 0)))
    (slice_get M.machine.rules c.number)
    false

-- whether a piece of a start may be false
abbrev pub may_fault_at : AbstractMachine → Choice → Bool
may_fault_at M c = option_map_or (λ (r : TermRule). may_fault M r c.pattern) (slice_get M.machine.starts c.number) false

-- whether an assignment codes a start of the machine
abbrev pub is_start_code : AbstractMachine → (ℕ → Bool) → Bool
is_start_code M x =
    is_legal x 0 (lists_in M 0)
    && passes_at (may_start M x) (start_choices M) (choice_at x (start_choice_place M) (start_choices M))

-- whether an assignment codes a step of the machine
abbrev pub is_step_code : AbstractMachine → (ℕ → Bool) → Bool
is_step_code M x =
    is_legal x 0 (lists_in M 0)
    && (is_legal x (next_place M) (lists_in M 0)
    && passes_at (may_step M x) (step_choices M) (choice_at x (step_choice_place M) (step_choices M)))

-- whether the coded kept state violates some formula, and so may the state after the step
abbrev pub state_is_bad : AbstractMachine → (ℕ → Bool) → Bool
state_is_bad M x = is_bad M (coded_state x 0 (lists_in M 0))

abbrev pub next_is_bad : AbstractMachine → (ℕ → Bool) → Bool
next_is_bad M x = is_bad M (coded_state x (next_place M) (lists_in M 0))

-- whether a piece of the coded start may be false under the coded pattern
abbrev pub start_faults : AbstractMachine → (ℕ → Bool) → Bool
start_faults M x = passes_at (may_fault_at M) (start_choices M) (choice_at x (start_choice_place M) (start_choices M))

-- whether the bit that says whether the kept state is bad does so: of a start, of the state before a step, and after it
abbrev pub tells_bad_start : AbstractMachine → (ℕ → Bool) → Bool
tells_bad_start M x = same_truth (x (bad_place M)) (state_is_bad M x || start_faults M x)

abbrev pub tells_bad : AbstractMachine → (ℕ → Bool) → Bool
tells_bad M x = same_truth (x (bad_place M)) (state_is_bad M x)

abbrev pub tells_bad_next : AbstractMachine → (ℕ → Bool) → Bool
tells_bad_next M x = same_truth (x (bad_next_place M)) (next_is_bad M x)
