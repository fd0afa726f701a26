-- What a start may leave, as a fact of the coded kept state.
use Rattle.std.specs.Prelude.{ℕ, Bool, List}
use Rattle.circuit_core.specs.declared.edge.Edge.{Edge}
use Rattle.other_abstract.specs.declared.value.AbsValue.{AbsValue}
use Rattle.other_abstract.specs.Windows.{Window, same_value}
use Rattle.other_abstract.specs.Machines.{read_kept, settled}
use Rattle.bit_encode.specs.declared.set.Possible.{Possible}
use Rattle.bit_encode.specs.MaySets.{held}

-- whether one of these values, fired nodes read as Other and what the family's cells cannot have as undefined, is possible
abbrev pub settles : (Edge → Bool) → Window → ℕ → List Possible → AbsValue → Bool
settles val K f to x = held val (same_value (settled K f (read_kept x))) to
