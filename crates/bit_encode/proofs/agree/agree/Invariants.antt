use Rattle.std.proofs.Common.{◌&&◌, take}
use Rattle.other_abstract.specs.Windows.{same_value}
use Rattle.other_abstract.specs.Machines.{read_kept}
use Rattle.bit_encode.specs.declared.set.Possible.{Possible}
use Rattle.bit_encode.specs.MaySets.{held}
use Rattle.bit_encode.proofs.Gaining.{IsAny}
use Rattle.bit_encode.proofs.agree.agree.Given as goal

abbrev pub invariant-loop-one : goal.invariant-loop-one
invariant-loop-one l = IsAny l.fn.circuit l.circuit l.any (λ val (o : Possible). held val (same_value (read_kept o.value)) l.to && val o.edge) (take l.one-index l.from)
