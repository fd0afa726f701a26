use Rattle.murphi_run.proofs.StretchLemmas.{stretch_holds, stretch_written}
use Rattle.murphi_run.proofs.laws.places_are_stretches.Goals as goal

pub returns-clause-holds : goal.returns-clause-holds
returns-clause-holds c = stretch_holds

pub returns-clause-written : goal.returns-clause-written
returns-clause-written c = λ N layout values new cells b place inner contents fits holds there leads long holding. stretch_written N layout values new cells b place inner contents fits holds there leads long holding
