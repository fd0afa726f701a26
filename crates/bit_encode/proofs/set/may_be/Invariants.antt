use Rattle.std.proofs.Common.{◌&&◌, take}
use Rattle.other_abstract.specs.Tests.{passes}
use Rattle.bit_encode.specs.declared.set.Possible.{Possible}
use Rattle.bit_encode.proofs.Gaining.{IsAny}
use Rattle.bit_encode.proofs.set.may_be.Given as goal

abbrev pub invariant-loop-one : goal.invariant-loop-one
invariant-loop-one l = IsAny l.fn.circuit l.circuit l.any (λ val (o : Possible). passes l.wanted o.value && val o.edge) (take l.one-index l.from)
