use Rattle.std.proofs.Common.{◌&&◌, true, take}
use Rattle.bit_encode.specs.declared.set.Possible.{Possible}
use Rattle.bit_encode.proofs.Gaining.{IsAny}
use Rattle.bit_encode.proofs.set.any_value.Given as goal

abbrev pub invariant-loop-one : goal.invariant-loop-one
invariant-loop-one l = IsAny l.fn.circuit l.circuit l.any (λ val (o : Possible). true && val o.edge) (take l.one-index l.from)
