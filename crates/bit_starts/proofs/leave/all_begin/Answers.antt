use Rattle.other_abstract.specs.Lists.{window_in}
use Rattle.other_abstract.specs.Machines.{window}
use Rattle.other_abstract.specs.Stepping.{begins}
use Rattle.bit_starts.proofs.LeaveLemmas.{all_tell_more}
use Rattle.bit_starts.proofs.leave.all_begin.Goals as goal

pub loop-place-preserved : goal.loop-place-preserved
loop-place-preserved c =
    all_tell_more _ _ _ _ c.args.kept.now.cells.now _ _ _ (λ t place. begins (window_in c.args.kept.now.window) (window c.args.starting.now.machine.now c.args.starting.now.fired) t c.args.starting.now.updates.now c.args.starting.now.pattern.now place)
    c.args.places.now c.loop-place.place-index _ c.place-item.result c.loop-place-test.true c.place-item.is
    c.loop-place.invariant c.begins.ensures.keeps c.in_ok-one.ensures.tells c.both.ensures.keeps c.in_ok-all.ensures.edge c.in_ok-all.ensures.value
