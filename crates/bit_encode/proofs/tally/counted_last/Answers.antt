use Rattle.std.proofs.Common.{◌||◌, ◌∙◌, ap}
use Rattle.bit_encode.proofs.Growing.{agrees_before}
use Rattle.bit_encode.proofs.tally.counted_last.Goals as goal

pub returns-clause-other : goal.returns-clause-other
returns-clause-other c = λ x val a.
    c.in_ok-other.ensures.value x val a
    ∙ ap (λ h. val c.args.before.other || h) (c.in_ok-otherwise.ensures.value x val (agrees_before c.may_be.new.circuit c.either.new.circuit x val c.either.ensures.keeps a))
