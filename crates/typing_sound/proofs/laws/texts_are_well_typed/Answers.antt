use Rattle.typing_sound.proofs.Texts.{texts}
use Rattle.typing_sound.proofs.laws.texts_are_well_typed.Goals as goal

pub returns : goal.returns
returns c = record { texts = texts }
