use Rattle.std.proofs.Common.{◌&&◌, ◌||◌, ◌∙◌, ap, true}
use Rattle.other_abstract.specs.Tests.{passes}
use Rattle.bit_encode.specs.MaySets.{Agrees, held}
use Rattle.bit_encode.proofs.Growing.{agrees_before}
use Rattle.bit_encode.proofs.combine.chosen_by.Goals as goal

pub returns-clause-value : goal.returns-clause-value
returns-clause-value c = λ x val p a.
    let b : Agrees c.may_be-2.new.circuit x val = agrees_before c.may_be-2.new.circuit c.chosen.new.circuit x val c.chosen.ensures.keeps a in
    c.in_ok-out.ensures.value x val p a
    ∙ ap (λ h. (held val p c.args.first.now && h) || (held val p c.args.second.now && val c.in_ok-fail.fail))
    (c.in_ok-hold.ensures.value x val (agrees_before c.may_be.new.circuit c.may_be-2.new.circuit x val c.may_be-2.ensures.keeps b))
    ∙ ap (λ f. (held val p c.args.first.now && held val (passes true) c.args.test.now) || (held val p c.args.second.now && f)) (c.in_ok-fail.ensures.value x val b)
