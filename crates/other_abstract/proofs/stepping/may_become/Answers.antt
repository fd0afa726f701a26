use Rattle.term_core.specs.Firing.{update_for}
use Rattle.other_abstract.specs.Lists.{window_in}
use Rattle.other_abstract.proofs.StepLemmas.{become_given}
use Rattle.other_abstract.proofs.stepping.may_become.Goals as goal

pub returns-in-Some : goal.returns-in-Some
returns-in-Some c =
    become_given (window_in c.args.scene.now) c.args.scene.now.cells.now c.args.pattern.now (update_for c.args.updates.now c.args.place.now.family) c.args.place.now c.in_ok-values.field-0
    c.in-Some.values c.values-in-Some.result.now c.args.new c.has_kept-b.result c.in_ok-values.ensures c.in-Some.is c.values-in-Some.ensures.values c.has_kept-b.ensures
