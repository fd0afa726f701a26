use Rattle.std.proofs.Common.{◌∙◌}
use Rattle.term_core.proofs.CopyLemmas.{replaced_itself}
use Rattle.term_core.proofs.substitute.same.Goals as goal

pub returns : goal.returns
returns c = c.in_ok-out.ensures ∙ replaced_itself 0 c.args.t.now
