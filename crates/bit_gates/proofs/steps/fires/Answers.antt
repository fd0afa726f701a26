use Rattle.std.proofs.Common.{[], refl}
use Rattle.other_abstract.specs.Lists.{window_in}
use Rattle.bit_gates.proofs.StepLemmas.{fires_tells}
use Rattle.bit_gates.proofs.steps.fires.Goals as goal

pub returns-clause-tells : goal.returns-clause-tells
returns-clause-tells c =
    fires_tells c.args.circuit.now _ _ _ _ c.args.sides.now.wide.cells.now c.args.sides.now.before.cells.now c.args.sides.now.after.cells.now
    (window_in c.args.sides.now.wide.window) (window_in c.args.sides.now.before.window) (window_in c.args.sides.now.after.window)
    c.args.machine.now.formulas c.args.rule.now c.args.pattern.now c.args.places.now c.as_slice-updates.result.now [] c.args.ready c.in_ok-guard.guard c.in_ok-next.next c.in_ok-goes.goes c.in_ok-e.e
    c.requires.ready c.may_be_at.ensures.keeps refl c.in_ok-guard.ensures.tells c.all_become.ensures.keeps c.as_slice-updates.ensures c.in_ok-next.ensures.tells c.both.ensures.keeps c.in_ok-goes.ensures.value c.both-2.ensures.keeps c.in_ok-e.ensures.value
