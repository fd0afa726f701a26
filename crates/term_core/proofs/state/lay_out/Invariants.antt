use Rattle.std.proofs.Common.{◌≡◌, ◌++◌, drop, length}
use Rattle.term_core.specs.Cells.{blank_state}
use Rattle.term_core.specs.Views.{places_from}
use Rattle.term_core.proofs.state.lay_out.Given as goal

abbrev pub invariant-loop-family : goal.invariant-loop-family
invariant-loop-family l =
    (l.firsts ++ places_from l.nodes (length l.values) (drop l.family-index l.families) ≡ l.fn.firsts ++ places_from l.nodes (length l.fn.values) l.families)
    × (l.values ++ blank_state l.nodes (drop l.family-index l.families) ≡ l.fn.values ++ blank_state l.nodes l.families)
