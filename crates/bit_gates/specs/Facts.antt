-- Edges that are true exactly where a fact of the assignment holds.
use Rattle.std.specs.Prelude.{◌≡◌, ℕ, Bool, ◌&&◌, IsTrue}
use Rattle.circuit_core.specs.declared.edge.Edge.{Edge}
use Rattle.circuit_core.specs.Network.{Network}
use Rattle.other_abstract.specs.declared.machine.AbstractMachine.{AbstractMachine}
use Rattle.bit_encode.specs.Codes.{is_legal}
use Rattle.bit_encode.specs.MaySets.{Agrees}
use Rattle.bit_layout.specs.Layout.{lists_in, next_place}

-- an edge is true exactly where a fact of the assignment of the inputs holds
unfoldable pub IsFact : Network → Edge → ((ℕ → Bool) → Bool) → Type 0
IsFact c e f = (x : ℕ → Bool) (val : Edge → Bool) → Agrees c x val → val e ≡ f x

-- the same, for the assignments of which another fact holds
unfoldable pub IsFactWhere : Network → ((ℕ → Bool) → Bool) → Edge → ((ℕ → Bool) → Bool) → Type 0
IsFactWhere c ok e f = (x : ℕ → Bool) (val : Edge → Bool) → Agrees c x val → IsTrue (ok x) → val e ≡ f x

-- whether the code of the kept state is legal, and whether those of the kept states before and after a step are
abbrev pub kept_legal : AbstractMachine → (ℕ → Bool) → Bool
kept_legal M x = is_legal x 0 (lists_in M 0)

abbrev pub both_legal : AbstractMachine → (ℕ → Bool) → Bool
both_legal M x = is_legal x 0 (lists_in M 0) && is_legal x (next_place M) (lists_in M 0)
