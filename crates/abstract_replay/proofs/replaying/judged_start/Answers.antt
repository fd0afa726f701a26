use Rattle.std.proofs.Common.{◌∙◌, ap, inr, length}
use Rattle.abstract_replay.proofs.PathLemmas.{no_faults}
use Rattle.abstract_replay.proofs.replaying.judged_start.Goals as goal

pub returns-then-not-faults : goal.returns-then-not-faults
returns-then-not-faults c = (c.requires.clean, no_faults _ _ _ c.if-not-faults.true c.in_ok-faults.ensures)

pub returns : goal.returns
returns c =
    inr ((c.in_ok-formula.ensures ∙ ap length c.formulas.ensures, c.requires.clean, c.in_ok-faults.ensures.0 c.if-not-faults.false))
