use Rattle.std.proofs.Common.{◌≡◌, map, take}
use Rattle.rule_inline.specs.Machine.{named_kind}
use Rattle.rule_names.proofs.kinds.named_kinds.Given as goal

abbrev pub invariant-loop-kind : goal.invariant-loop-kind
invariant-loop-kind l = l.out ≡ map named_kind (take l.kind-index l.kinds)
