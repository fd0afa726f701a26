use Rattle.std.proofs.Common.{◌||◌, ◌∙◌, ap}
use Rattle.other_abstract.specs.Windows.{same_value}
use Rattle.other_abstract.specs.Lists.{window_in}
use Rattle.other_abstract.specs.Machines.{settled}
use Rattle.bit_encode.specs.MaySets.{Agrees, held}
use Rattle.bit_starts.proofs.Growing.{agrees_before}
use Rattle.bit_starts.proofs.leave.with_settled.Goals as goal

pub returns-clause-value : goal.returns-clause-value
returns-clause-value c = λ x val a.
    let b : Agrees c.edge_of.new.circuit x val = agrees_before c.edge_of.new.circuit c.either.new.circuit x val c.either.ensures.keeps a in
    c.in_ok-e.ensures.value x val a
    ∙ ap (λ h. val c.args.any || h) (c.in_ok-one.ensures.value x val b
    ∙ ap (λ v. held val (same_value v) c.args.to.now) (c.settled-new.ensures ∙ ap (settled (window_in c.args.kept.now) c.args.family) c.read_kept.ensures))
