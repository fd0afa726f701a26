use Rattle.bit_encode.proofs.OrderLemmas.{firing_steps, coded_firing}
use Rattle.bit_encode.proofs.laws.firing_is_a_step.Goals as goal

pub returns-clause-step : goal.returns-clause-step
returns-clause-step c = firing_steps

pub returns-clause-coded : goal.returns-clause-coded
returns-clause-coded c = coded_firing
