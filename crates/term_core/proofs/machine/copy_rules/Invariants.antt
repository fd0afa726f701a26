use Rattle.std.proofs.Common.{◌≡◌, take}
use Rattle.term_core.proofs.machine.copy_rules.Given as goal

abbrev pub invariant-loop-one : goal.invariant-loop-one
invariant-loop-one l = l.out ≡ take l.one-index l.all
