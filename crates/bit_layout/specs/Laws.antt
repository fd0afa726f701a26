-- What holds of the layout. Each statement is the contract of a public function of `laws` that does nothing.
use Rattle.std.specs.Prelude.{◌≡◌, ◌↔◌, ℕ, Bool, List, Some, slice_get, IsTrue}
use Rattle.term_core.specs.declared.machine.TermRule.{TermRule}
use Rattle.other_abstract.specs.declared.node.AbsNode.{AbsNode}
use Rattle.other_abstract.specs.declared.machine.AbstractMachine.{AbstractMachine}
use Rattle.other_abstract.specs.Windows.{Window}
use Rattle.other_abstract.specs.May.{AbsCells}
use Rattle.other_abstract.specs.Machines.{IsPattern, FitsWindow, AbsStarts, AbsFires, MayFault}
use Rattle.bit_encode.specs.Codes.{cell_lists, coded_state, is_legal}
use Rattle.bit_layout.specs.declared.choice.Choice.{Choice}
use Rattle.bit_layout.specs.Choices.{choices_from}
use Rattle.bit_layout.specs.Layout.{bad_place, bad_next_place}
use Rattle.bit_layout.specs.Coded.{CodesStart, CodesStep, IsBad, is_bad, is_start_code, is_step_code, start_faults}

-- Each choice is of one of the rules, with a pattern of it, and each such pair is a choice.
abbrev pub ChoicesAreListed : Type 0
ChoicesAreListed =
    (m : ℕ) (rules : List TermRule)
    → ((n : ℕ) (c : Choice) → slice_get (choices_from m 0 rules) n ≡ Some c → (r : TermRule) × (slice_get rules c.number ≡ Some r) × IsPattern m r c.pattern)
    × ((k : ℕ) (r : TermRule) (p : List AbsNode) → slice_get rules k ≡ Some r → IsPattern m r p
    → (n : ℕ) × (slice_get (choices_from m 0 rules) n ≡ Some (record { number = k; pattern = p })))

-- Each state that fits a window has a legal code, at every place.
abbrev pub FittingStatesHaveCodes : Type 0
FittingStatesHaveCodes =
    (W : Window) (w : AbsCells) (place : ℕ)
    → FitsWindow W w
    → (x : ℕ → Bool) × IsTrue (is_legal x place (cell_lists W)) × (coded_state x place (cell_lists W) ≡ w)

-- An assignment is that of a start exactly where it codes a start of the machine,
abbrev pub CodedStartsAreStarts : Type 0
CodedStartsAreStarts =
    (M : AbstractMachine) (x : ℕ → Bool)
    → IsTrue (is_start_code M x) ↔ ((k : ℕ) × (p : List AbsNode) × (t : AbsCells) × CodesStart M x k p t × AbsStarts M k p t)

-- and each start of the machine is coded, whatever the bit that says whether it is bad.
abbrev pub StartsHaveCodes : Type 0
StartsHaveCodes =
    (M : AbstractMachine) (k : ℕ) (p : List AbsNode) (t : AbsCells) (bad : Bool)
    → AbsStarts M k p t
    → (x : ℕ → Bool) × CodesStart M x k p t × (x (bad_place M) ≡ bad)

-- So it is of steps.
abbrev pub CodedStepsAreSteps : Type 0
CodedStepsAreSteps =
    (M : AbstractMachine) (x : ℕ → Bool)
    → IsTrue (is_step_code M x)
    ↔ ((s : AbsCells) × (k : ℕ) × (p : List AbsNode) × (w : AbsCells) × (t : AbsCells) × CodesStep M x s k p w t × AbsFires M s k p w t)

abbrev pub StepsHaveCodes : Type 0
StepsHaveCodes =
    (M : AbstractMachine) (s : AbsCells) (k : ℕ) (p : List AbsNode) (w t : AbsCells) (bad bad_next : Bool)
    → AbsFires M s k p w t
    → (x : ℕ → Bool) × CodesStep M x s k p w t × (x (bad_place M) ≡ bad) × (x (bad_next_place M) ≡ bad_next)

-- A state is bad exactly where it violates some formula,
abbrev pub BadIsViolating : Type 0
BadIsViolating = (M : AbstractMachine) (s : AbsCells) → IsTrue (is_bad M s) ↔ IsBad M s

-- and the coded start faults exactly where a piece of it may be false under the coded pattern.
abbrev pub CodedFaultsAreFaults : Type 0
CodedFaultsAreFaults =
    (M : AbstractMachine) (x : ℕ → Bool) (k : ℕ) (p : List AbsNode) (t : AbsCells)
    → CodesStart M x k p t
    → IsTrue (start_faults M x) ↔ ((r : TermRule) × (slice_get M.machine.starts k ≡ Some r) × MayFault M r p)
