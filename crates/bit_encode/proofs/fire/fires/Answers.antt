use Rattle.std.proofs.Common.{[], refl}
use Rattle.other_abstract.specs.Lists.{window_in}
use Rattle.bit_encode.proofs.FireLemmas.{fires_tells}
use Rattle.bit_encode.proofs.fire.fires.Goals as goal

pub returns-clause-tells : goal.returns-clause-tells
returns-clause-tells c =
    fires_tells _ _ _ _ _ c.args.sides.now.wide.cells.now c.args.sides.now.before.cells.now c.args.sides.now.after.cells.now
    (window_in c.args.sides.now.wide.window) (window_in c.args.sides.now.before.window) (window_in c.args.sides.now.after.window)
    c.args.formulas.now c.args.rule.now c.args.pattern.now c.args.places.now c.as_slice-updates.result.now [] c.in_ok-left.left c.in_ok-assumed.assumed c.in_ok-guard.guard c.in_ok-next.next c.in_ok-e.e
    c.in_ok-left.ensures.tells c.all_may_hold.ensures.keeps c.in_ok-assumed.ensures.tells c.may_be_at.ensures.keeps refl c.in_ok-guard.ensures.tells c.all_become.ensures.keeps
    c.as_slice-updates.ensures c.in_ok-next.ensures.tells c.all_four.ensures.keeps c.in_ok-e.ensures.value
