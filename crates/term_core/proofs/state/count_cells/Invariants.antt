use Rattle.std.proofs.Common.{◌≡◌, ◌+◌, drop}
use Rattle.term_core.specs.Views.{cell_count}
use Rattle.term_core.proofs.state.count_cells.Given as goal

abbrev pub invariant-loop-family : goal.invariant-loop-family
invariant-loop-family l = l.count + cell_count l.nodes (drop l.family-index l.families) ≡ cell_count l.nodes l.families
