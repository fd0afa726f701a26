use Rattle.std.proofs.Common.{◌&&◌, not, take, []}
use Rattle.bit_encode.specs.declared.set.Possible.{Possible}
use Rattle.other_abstract.specs.declared.value.AbsValue.TheVariants.{Truth}
use Rattle.other_abstract.specs.Windows.{truth}
use Rattle.bit_encode.proofs.Gaining.{Gains}
use Rattle.bit_encode.proofs.combine.negated.Given as goal

abbrev pub invariant-loop-one : goal.invariant-loop-one
invariant-loop-one l = Gains l.fn.circuit l.circuit [] l.out (λ val p (o : Possible). p (Truth (not (truth o.value))) && val o.edge) (take l.one-index l.from)
