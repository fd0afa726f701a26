use Rattle.std.proofs.Common.{sym, ap, ◌∙◌}
use Rattle.other_abstract.specs.Machines.{blank}
use Rattle.other_abstract.proofs.deciding.may_fault.Goals as goal

pub pieces_may_fail-requires-clause-cells : goal.pieces_may_fail-requires-clause-cells
pieces_may_fail-requires-clause-cells c = c.scene_of-scene.ensures.cells ∙ c.as_slice-2.ensures.value ∙ c.in_ok-cells.ensures ∙ ap blank (sym c.scene_of-scene.ensures.window)
