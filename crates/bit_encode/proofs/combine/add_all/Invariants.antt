use Rattle.std.proofs.Common.{◌&&◌, take}
use Rattle.bit_encode.specs.declared.set.Possible.{Possible}
use Rattle.bit_encode.proofs.Gaining.{Gains}
use Rattle.bit_encode.proofs.combine.add_all.Given as goal

abbrev pub invariant-loop-one : goal.invariant-loop-one
invariant-loop-one l = Gains l.fn.circuit l.circuit l.fn.out l.out (λ val p (o : Possible). p o.value && (val l.under && val o.edge)) (take l.one-index l.more)
