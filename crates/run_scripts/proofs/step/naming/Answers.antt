use Rattle.std.proofs.Common.{sym}
use Rattle.run_scripts.specs.Scripts.{titles}
use Rattle.run_scripts.proofs.TitleLemmas.{first_within}
use Rattle.run_scripts.proofs.step.naming.Goals as goal

pub is_usable-requires : goal.is_usable-requires
is_usable-requires c =
    first_within (titles c.args.typed.now c.args.p.now.firing) c.bytes.result.now c.in-Some.which
    (sym (c.in-Some.ensures (titles c.args.typed.now c.args.p.now.firing) c.requires))
