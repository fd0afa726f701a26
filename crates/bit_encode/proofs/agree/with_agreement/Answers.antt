use Rattle.std.proofs.Common.{◌&&◌, ◌||◌, ◌∙◌, ap}
use Rattle.other_abstract.specs.Windows.{same_value}
use Rattle.bit_encode.specs.MaySets.{Agrees, held}
use Rattle.bit_encode.proofs.Growing.{agrees_before}
use Rattle.bit_encode.proofs.agree.with_agreement.Goals as goal

pub returns-clause-value : goal.returns-clause-value
returns-clause-value c = λ x val a.
    let b : Agrees c.both.new.circuit x val = agrees_before c.both.new.circuit c.either.new.circuit x val c.either.ensures.keeps a in
    let d : Agrees c.edge_of.new.circuit x val = agrees_before c.edge_of.new.circuit c.both.new.circuit x val c.both.ensures.keeps b in
    c.in_ok-e.ensures.value x val a
    ∙ ap (λ h. val c.args.any || h) (c.in_ok-here.ensures.value x val b
    ∙ ap (λ h. h && val c.args.one.edge) (c.in_ok-there.ensures.value x val d ∙ ap (λ v. held val (same_value v) c.args.to.now) c.read_kept.ensures))
