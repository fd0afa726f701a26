use Rattle.std.proofs.Common.{◌&&◌, take}
use Rattle.other_abstract.specs.declared.value.AbsValue.{AbsValue}
use Rattle.bit_encode.proofs.Gaining.{Gains}
use Rattle.bit_encode.proofs.combine.add_values.Given as goal

abbrev pub invariant-loop-value : goal.invariant-loop-value
invariant-loop-value l = Gains l.fn.circuit l.circuit l.fn.out l.out (λ val p (v : AbsValue). p v && val l.under) (take l.value-index l.values)
