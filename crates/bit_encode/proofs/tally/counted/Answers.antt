use Rattle.std.proofs.Common.{◌&&◌, ◌||◌, ◌∙◌, ap}
use Rattle.bit_encode.specs.MaySets.{Agrees}
use Rattle.bit_encode.proofs.Growing.{agrees_before}
use Rattle.bit_encode.proofs.tally.counted.Goals as goal

pub returns-clause-each : goal.returns-clause-each
returns-clause-each c = λ x val a.
    let b : Agrees c.both.new.circuit x val = agrees_before c.both.new.circuit c.either.new.circuit x val c.either.ensures.keeps a in
    let d : Agrees c.may_be-2.new.circuit x val = agrees_before c.may_be-2.new.circuit c.both.new.circuit x val c.both.ensures.keeps b in
    c.in_ok-each.ensures.value x val b
    ∙ ap (λ h. val c.args.before.each && h) (c.in_ok-so.ensures.value x val (agrees_before c.may_be.new.circuit c.may_be-2.new.circuit x val c.may_be-2.ensures.keeps d))

pub returns-clause-other : goal.returns-clause-other
returns-clause-other c = λ x val a.
    let b : Agrees c.both.new.circuit x val = agrees_before c.both.new.circuit c.either.new.circuit x val c.either.ensures.keeps a in
    let d : Agrees c.may_be-2.new.circuit x val = agrees_before c.may_be-2.new.circuit c.both.new.circuit x val c.both.ensures.keeps b in
    c.in_ok-other.ensures.value x val a
    ∙ ap (λ h. val c.args.before.other || h) (c.in_ok-otherwise.ensures.value x val d)
