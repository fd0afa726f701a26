use Rattle.bit_encode.proofs.Arms.{forms_said}
use Rattle.bit_encode.proofs.laws.forms_are_said.Goals as goal

pub returns : goal.returns
returns c = forms_said
