use Rattle.murphi_syntax.proofs.FlatLaws.{spelled_by, stopped_by, only_by, unbuilt_by, not_flat_by}
use Rattle.murphi_syntax.proofs.protocol.flat.Goals as goal

pub returns-clause-spelled : goal.returns-clause-spelled
returns-clause-spelled c = spelled_by _ _ c.read.ensures.says

pub returns-clause-stopped : goal.returns-clause-stopped
returns-clause-stopped c = stopped_by c.one_reading.ensures.one _ _ c.read.ensures.says

pub returns-clause-only : goal.returns-clause-only
returns-clause-only c = only_by c.one_reading.ensures.one _ _ c.read.ensures.says

pub returns-clause-unbuilt : goal.returns-clause-unbuilt
returns-clause-unbuilt c = unbuilt_by c.one_reading.ensures.one _ _ c.read.ensures.says

pub returns-clause-not_flat : goal.returns-clause-not_flat
returns-clause-not_flat c = not_flat_by c.one_reading.ensures.one _ _ c.read.ensures.says

pub returns-clause-placed : goal.returns-clause-placed
returns-clause-placed c = c.read.ensures.placed
