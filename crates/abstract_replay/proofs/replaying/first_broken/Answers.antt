use Rattle.abstract_replay.proofs.PathLemmas.{fits_at, broken_there, kept_there, all_there}
use Rattle.abstract_replay.proofs.replaying.first_broken.Goals as goal

pub allows-requires-clause-rule : goal.allows-requires-clause-rule
allows-requires-clause-rule c = (fits_at _ _ _ _ c.requires.fits c.loop-step-test.true c.step-item.is).rule

pub allows-requires-clause-pattern : goal.allows-requires-clause-pattern
allows-requires-clause-pattern c = (fits_at _ _ _ _ c.requires.fits c.loop-step-test.true c.step-item.is).pattern

pub allows-requires-clause-wide : goal.allows-requires-clause-wide
allows-requires-clause-wide c = (fits_at _ _ _ _ c.requires.fits c.loop-step-test.true c.step-item.is).wide

pub allows-requires-clause-to : goal.allows-requires-clause-to
allows-requires-clause-to c = (fits_at _ _ _ _ c.requires.fits c.loop-step-test.true c.step-item.is).to

pub returns-then-not-allowed : goal.returns-then-not-allowed
returns-then-not-allowed c =
    broken_there _ _ _ _ _ _ _ _ c.loop-step.invariant.0 c.loop-step.invariant.1 c.loop-step-test.true c.step-item.is c.if-not-allowed.true c.in_ok-allowed.ensures

pub loop-step-preserved : goal.loop-step-preserved
loop-step-preserved c =
    kept_there _ _ _ _ _ _ _ _ c.loop-step.invariant.0 c.loop-step.invariant.1 c.loop-step-test.true c.step-item.is c.if-not-allowed.false c.in_ok-allowed.ensures

pub returns : goal.returns
returns c = all_there _ _ _ _ _ c.loop-step.invariant.1 c.loop-step-test.false
