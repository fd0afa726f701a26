use Rattle.std.proofs.Common.{◌<◌, ◌≤◌, length, subst}
use Rattle.abstract_replay.proofs.PathLemmas.{violated_there, clean_there}
use Rattle.abstract_replay.proofs.replaying.first_violated.Goals as goal

pub returns-then-violated : goal.returns-then-violated
returns-then-violated c =
    violated_there _ _ _ _ _ c.in_ok-formula.ensures (subst (λ fs. c.loop-at.at < length fs) c.formulas-at-end.ensures c.loop-at-test.true)
    c.loop-at.invariant c.if-violated.true c.in_ok-violated.ensures

pub returns : goal.returns
returns c = clean_there _ _ _ c.loop-at.invariant (subst (λ fs. length fs ≤ c.loop-at.at) c.formulas-at-end.ensures c.loop-at-test.false)
