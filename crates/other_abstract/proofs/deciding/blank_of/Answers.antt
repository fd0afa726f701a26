use Rattle.other_abstract.proofs.DecidingLemmas.{blank_made}
use Rattle.other_abstract.proofs.deciding.blank_of.Goals as goal

pub returns : goal.returns
returns c = blank_made c.args.machine.now c.args.fired c.args.nodes.now c.as_slice-families.result.now c.in_ok-out.out.items c.requires c.as_slice-families.ensures c.in_ok-out.ensures
