use Rattle.std.proofs.Common.{◌≡◌, take}
use Rattle.rule_parts.proofs.leaf.+copy_type.Given as goal

abbrev pub invariant-copy_fields-loop-one : goal.invariant-copy_fields-loop-one
invariant-copy_fields-loop-one l = l.out ≡ take l.one-index l.all
