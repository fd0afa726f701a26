use Rattle.rule_parts.proofs.NowEquations.{firsts_are}
use Rattle.rule_parts.proofs.laws.first_writes_are_of_the_change.Goals as goal

pub returns : goal.returns
returns c = record { marks = firsts_are }
