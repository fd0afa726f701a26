use Rattle.std.proofs.Common.{subst}
use Rattle.bit_encode.specs.Terms.{TellsIn}
use Rattle.other_abstract.specs.Lists.{window_in}
use Rattle.other_abstract.specs.Stepping.{all_may_hold}
use Rattle.bit_encode.specs.Steps.{are_left}
use Rattle.bit_gates.proofs.Growing.{keeps_all, agrees_before}
use Rattle.bit_gates.proofs.WindowLemmas.{opens_both}
use Rattle.bit_gates.proofs.window.asked.Goals as goal

pub returns-clause-opens : goal.returns-clause-opens
returns-clause-opens c =
    opens_both _ _ _ c.args.wide.now.cells.now c.args.before.now.cells.now c.in_ok-left.left c.in_ok-assumed.assumed c.in_ok-ready.ready
    (λ w s. are_left (window_in c.args.wide.now.window) (window_in c.args.before.now.window) w s c.args.places.now) (λ w. all_may_hold (window_in c.args.wide.now.window) w c.args.machine.now.formulas)
    c.in_ok-left.ensures.tells c.all_may_hold.ensures.keeps (subst (λ fs. TellsIn c.all_may_hold.new.circuit c.args.wide.now.cells.now c.in_ok-assumed.assumed (λ w. all_may_hold (window_in c.args.wide.now.window) w fs)) c.formulas.ensures c.in_ok-assumed.ensures.tells) c.both.ensures.keeps c.in_ok-ready.ensures.value

pub returns-clause-legal : goal.returns-clause-legal
returns-clause-legal c = λ x val a. c.in_ok-legal.ensures.value x val (agrees_before _ _ x val (keeps_all _ _ _ c.all_left.ensures.keeps (keeps_all _ _ _ c.all_may_hold.ensures.keeps c.both.ensures.keeps)) a)
