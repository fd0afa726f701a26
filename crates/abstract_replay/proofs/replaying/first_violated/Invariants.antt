use Rattle.std.proofs.Common.{◌≡◌, ◌<◌, ℕ, Some, slice_get}
use Rattle.lemma_strengthen.specs.declared.formula.Formula.{Formula}
use Rattle.other_abstract.specs.Machines.{Violates}
use Rattle.abstract_replay.proofs.replaying.first_violated.Given as goal

abbrev pub invariant-loop-at : goal.invariant-loop-at
invariant-loop-at l =
    (j : ℕ) (f : Formula) → j < l.at → slice_get l.machine.formulas j ≡ Some f → Violates l.machine l.state.values f → ⊥
