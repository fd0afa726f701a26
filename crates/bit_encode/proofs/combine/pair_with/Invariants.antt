use Rattle.std.proofs.Common.{◌&&◌, take}
use Rattle.bit_encode.specs.declared.set.Possible.{Possible}
use Rattle.bit_encode.specs.MaySets.{pair_passes}
use Rattle.bit_encode.proofs.Gaining.{Gains}
use Rattle.bit_encode.proofs.combine.pair_with.Given as goal

abbrev pub invariant-loop-right : goal.invariant-loop-right
invariant-loop-right l = Gains l.fn.circuit l.circuit l.fn.out l.out (λ val p (o : Possible). pair_passes l.op p l.left.value o.value && (val l.left.edge && val o.edge)) (take l.right-index l.rights)
