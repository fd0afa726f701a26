-- Where the bits stand. In both formulas the bits of a kept state come first, and after them one that says whether it is
-- bad. Then come, for starts, the bits of the choice; and for steps those of the kept state after the step, of one
-- state for each number of fired nodes, of the choice, and one that says whether the state after it is bad.
use Rattle.std.specs.Prelude.{ℕ, zero, suc, ◌+◌, max, List, length}
use Rattle.other_abstract.specs.declared.value.AbsValue.{AbsValue}
use Rattle.other_abstract.specs.declared.machine.AbstractMachine.{AbstractMachine}
use Rattle.other_abstract.specs.Machines.{window}
use Rattle.other_abstract.specs.Making.{most_parameters}
use Rattle.bit_encode.specs.Codes.{width, cell_lists, bit_count}
use Rattle.bit_layout.specs.Choices.{step_choices, start_choices, most_fired}

-- the lists of values of the cells of a window with so many fired nodes, and how many bits they take
abbrev pub lists_in : AbstractMachine → ℕ → List (List AbsValue)
lists_in M fired = cell_lists (window M fired)

abbrev pub bits_in : AbstractMachine → ℕ → ℕ
bits_in M fired = bit_count (lists_in M fired)

-- The count that the limit is held against: the bits of the kept cells and those of the cells of a window with as many
-- fired nodes as a rule or start has node parameters at most.
abbrev pub bits_counted : AbstractMachine → ℕ
bits_counted M = bits_in M 0 + bits_in M (max (most_parameters M.machine.starts) (most_parameters M.machine.rules))

-- whether the kept state is bad
abbrev pub bad_place : AbstractMachine → ℕ
bad_place M = bits_in M 0

-- Starts

abbrev pub start_choice_place : AbstractMachine → ℕ
start_choice_place M = bits_in M 0 + 1

abbrev pub start_bits : AbstractMachine → ℕ
start_bits M = start_choice_place M + width (length (start_choices M))

-- Steps

abbrev pub next_place : AbstractMachine → ℕ
next_place M = bits_in M 0 + 1

-- the state of the window with so many fired nodes
abbrev pub window_place : AbstractMachine → ℕ → ℕ
window_place M zero = next_place M + bits_in M 0
window_place M (suc fired) = window_place M fired + bits_in M fired

abbrev pub step_choice_place : AbstractMachine → ℕ
step_choice_place M = window_place M (suc (most_fired (step_choices M)))

abbrev pub bad_next_place : AbstractMachine → ℕ
bad_next_place M = step_choice_place M + width (length (step_choices M))

abbrev pub step_bits : AbstractMachine → ℕ
step_bits M = bad_next_place M + 1
