use Rattle.std.proofs.Common.{◌&&◌, ◌∙◌, ap}
use Rattle.bit_encode.specs.MaySets.{Agrees}
use Rattle.bit_encode.proofs.Growing.{agrees_before}
use Rattle.bit_encode.proofs.fire.all_four.Goals as goal

pub returns-clause-value : goal.returns-clause-value
returns-clause-value c = λ x val a.
    let b : Agrees c.both-2.new.circuit x val = agrees_before c.both-2.new.circuit c.both-3.new.circuit x val c.both-3.ensures.keeps a in
    let d : Agrees c.both.new.circuit x val = agrees_before c.both.new.circuit c.both-2.new.circuit x val c.both-2.ensures.keeps b in
    c.in_ok-e.ensures.value x val a ∙ ap (λ z. val c.args.a && z) (c.in_ok-rest.ensures.value x val b ∙ ap (λ z. val c.args.b && z) (c.in_ok-last.ensures.value x val d))
