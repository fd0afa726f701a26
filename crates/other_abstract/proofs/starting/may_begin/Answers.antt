use Rattle.term_core.specs.Firing.{update_for}
use Rattle.other_abstract.specs.Lists.{window_in}
use Rattle.other_abstract.proofs.StepLemmas.{begin_given, begin_past}
use Rattle.other_abstract.proofs.starting.may_begin.Goals as goal

pub returns-in-Some : goal.returns-in-Some
returns-in-Some c =
    begin_given (window_in c.args.scene.now) c.args.scene.now.cells.now (window_in c.args.kept.now) c.args.pattern.now (update_for c.args.updates.now c.args.place.now.family) c.args.place.now c.in_ok-values.field-0
    c.in-Some.values c.values-in-Some.result.now c.args.new c.has_settled-b.result c.requires.cells c.in_ok-values.ensures c.in-Some.is c.values-in-Some.ensures.values c.has_settled-b.ensures

pub returns-in-None : goal.returns-in-None
returns-in-None c =
    begin_past (window_in c.args.scene.now) c.args.scene.now.cells.now (window_in c.args.kept.now) c.args.pattern.now (update_for c.args.updates.now c.args.place.now.family) c.args.place.now c.in_ok-values.field-0
    c.blank_of.result c.args.new c.is_same-b.result c.in_ok-values.ensures c.in-None.is c.blank_of.ensures c.is_same-b.ensures
