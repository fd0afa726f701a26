use Rattle.typing_sound.proofs.LemmaTexts.{lemmas}
use Rattle.typing_sound.proofs.laws.lemmas_are_well_typed.Goals as goal

pub returns : goal.returns
returns c = record { lemmas = lemmas }
