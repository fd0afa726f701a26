use Rattle.std.proofs.Common.{sym, ap, ◌∙◌}
use Rattle.other_abstract.specs.Machines.{blank}
use Rattle.other_abstract.proofs.deciding.is_start.Goals as goal

pub all_begin-requires-clause-cells : goal.all_begin-requires-clause-cells
all_begin-requires-clause-cells c = c.scene_of-scene.ensures.cells ∙ c.as_slice-2.ensures.value ∙ c.in_ok-cells.ensures ∙ ap blank (sym c.scene_of-scene.ensures.window)
