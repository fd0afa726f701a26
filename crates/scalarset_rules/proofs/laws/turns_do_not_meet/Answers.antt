use Rattle.scalarset_rules.proofs.Turning.{loop_faults, loop_ends, turns_go_on, writes_have_one_place}
use Rattle.scalarset_rules.proofs.laws.turns_do_not_meet.Goals as goal

pub returns-clause-faults : goal.returns-clause-faults
returns-clause-faults c = loop_faults

pub returns-clause-ends : goal.returns-clause-ends
returns-clause-ends c = loop_ends

pub returns-clause-on : goal.returns-clause-on
returns-clause-on c = turns_go_on

pub returns-clause-places : goal.returns-clause-places
returns-clause-places c = writes_have_one_place
