use Rattle.std.proofs.Common.{◌≡◌, ℕ, Some, sym, subst}
use Rattle.std.specs.Prelude.{slice_get}
use Rattle.other_abstract.specs.declared.state.AbsStep.{AbsStep}
use Rattle.abstract_replay.specs.Paths.{StepFits}
use Rattle.abstract_replay.proofs.PathLemmas.{exactly, comes_broken, comes_judged}
use Rattle.abstract_replay.proofs.replaying.replay.Goals as goal

pub first_broken-requires-clause-fits : goal.first_broken-requires-clause-fits
first_broken-requires-clause-fits c =
    subst (λ xs. (k : ℕ) (step : AbsStep) → slice_get xs k ≡ Some step → StepFits c.args.machine.now step) (sym c.as_slice.ensures) c.requires.fits.steps

pub returns-in-Some : goal.returns-in-Some
returns-in-Some c =
    exactly c.args.machine.now c.args.path.now _ (comes_broken c.args.machine.now c.args.path.now _ _ _ c.as_slice.ensures c.in-Some.is (c.in_ok-begins.ensures.0 c.if-not-begins.false) c.in_ok-broken.ensures)

pub returns-in_ok-end-in-None : goal.returns-in_ok-end-in-None
returns-in_ok-end-in-None c =
    exactly c.args.machine.now c.args.path.now _ (comes_judged c.args.machine.now c.args.path.now _ _ _ c.as_slice.ensures c.in-None.is (c.in_ok-begins.ensures.0 c.if-not-begins.false) c.in_ok-broken.ensures c.in_ok-end-in-None.ensures)
