use Rattle.std.proofs.Common.{◌&&◌, take, []}
use Rattle.bit_encode.specs.declared.set.Possible.{Possible}
use Rattle.bit_encode.specs.MaySets.{held, pair_passes}
use Rattle.bit_encode.proofs.Gaining.{Gains}
use Rattle.bit_encode.proofs.combine.paired.Given as goal

abbrev pub invariant-loop-left : goal.invariant-loop-left
invariant-loop-left l = Gains l.fn.circuit l.circuit [] l.out (λ val p (o : Possible). held val (pair_passes l.op p o.value) l.rights && val o.edge) (take l.left-index l.lefts)
