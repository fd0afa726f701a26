use Rattle.std.proofs.Common.{refl}
use Rattle.typing_sound.specs.Spelled.{is_spelled, stmt_spelled, item_spelled}
use Rattle.typing_sound.proofs.laws.worked_case.Goals as goal

pub returns : goal.returns
unfolding is_spelled stmt_spelled item_spelled
returns c = record { spelled = refl }
