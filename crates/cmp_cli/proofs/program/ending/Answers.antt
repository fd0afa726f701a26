use Rattle.cmp_cli.proofs.RunLemmas.{told_ending}
use Rattle.cmp_cli.proofs.program.ending.Goals as goal

pub returns-in-Ok-clause-is : goal.returns-in-Ok-clause-is
returns-in-Ok-clause-is g c =
    let h = c.in-Ok.ensures in
    told_ending _ c.in-Ok.outcome c.tell.result h.is h.spelled h.refused h.unasked h.told h.count_stays h.name_stays c.tell.ensures
