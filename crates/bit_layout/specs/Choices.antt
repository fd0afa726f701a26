-- What fires in a step, or starts: a rule or a start by its number, under a pattern of it.
use Rattle.std.specs.Prelude.{ℕ, zero, suc, max, Bool, false, List, [], ◌∷◌, ◌++◌, map}
use Rattle.term_core.specs.declared.machine.TermRule.{TermRule}
use Rattle.other_abstract.specs.declared.node.AbsNode.{AbsNode}
use Rattle.other_abstract.specs.declared.machine.AbstractMachine.{AbstractMachine}
use Rattle.other_abstract.specs.Patterns.{patterns_of}
use Rattle.other_abstract.specs.Machines.{fired_of}
use Rattle.bit_layout.specs.declared.choice.Choice.{Choice}

-- one rule or start with each of these patterns
abbrev pub choices_with : ℕ → List (List AbsNode) → List Choice
choices_with k ps = map (λ (p : List AbsNode). record { number = k; pattern = p }) ps

-- the choices of one rule or start: its patterns in order
abbrev pub choices_of : ℕ → ℕ → TermRule → List Choice
choices_of m k r = choices_with k (patterns_of m r)

-- those of several, the first of which has this number
abbrev pub choices_from : ℕ → ℕ → List TermRule → List Choice
choices_from m k [] = []
choices_from m k (r ∷ rs) = choices_of m k r ++ choices_from m (suc k) rs

-- the choices of steps, rule by rule, and those of starts
abbrev pub step_choices : AbstractMachine → List Choice
step_choices M = choices_from M.kept 0 M.machine.rules

abbrev pub start_choices : AbstractMachine → List Choice
start_choices M = choices_from M.kept 0 M.machine.starts

-- the most fired nodes that one of these uses
abbrev pub most_fired : List Choice → ℕ
most_fired [] = 0
most_fired (c ∷ cs) = max (fired_of c.pattern) (most_fired cs)

-- whether a choice stands at a position, and passes
abbrev pub passes_at : (Choice → Bool) → List Choice → ℕ → Bool
passes_at f [] n = false
passes_at f (c ∷ cs) zero = f c
passes_at f (c ∷ cs) (suc n) = passes_at f cs n
