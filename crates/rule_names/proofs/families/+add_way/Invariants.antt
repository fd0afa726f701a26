use Rattle.std.proofs.Common.{length}
use Rattle.rule_names.proofs.families.+add_way.Given as goal

abbrev pub decreases-add_way : goal.decreases-add_way
decreases-add_way l = length l.steps.now
