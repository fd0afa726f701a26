use Rattle.murphi_syntax.proofs.FlatLaws.{one_flat}
use Rattle.murphi_syntax.proofs.protocol.one_flat.Goals as goal

pub returns : goal.returns
returns c = one_flat c.one_reading.ensures.one
