use Rattle.std.proofs.Common.{◌&&◌, take}
use Rattle.other_abstract.specs.Windows.{same_value}
use Rattle.bit_encode.specs.declared.set.Possible.{Possible}
use Rattle.bit_encode.proofs.Gaining.{IsAny}
use Rattle.bit_encode.proofs.set.edge_of.Given as goal

abbrev pub invariant-loop-one : goal.invariant-loop-one
invariant-loop-one l = IsAny l.fn.circuit l.circuit l.any (λ val (o : Possible). same_value l.value o.value && val o.edge) (take l.one-index l.from)
