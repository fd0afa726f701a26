use Rattle.std.proofs.Common.{◌+◌, take}
use Rattle.circuit_core.proofs.ChoiceLemmas.{IsChoice}
use Rattle.circuit_core.proofs.circuit.Circuit.by_inputs.Given as goal

abbrev pub invariant-loop-e : goal.invariant-loop-e
invariant-loop-e l = IsChoice l.fn.self l.self l.chosen (take (l.e-index + 1) l.from)
