use Rattle.clause_derivation.proofs.SoundLemmas as laws
use Rattle.clause_derivation.proofs.derivation.derivations_hold.Goals as goal

pub returns-clause-sound : goal.returns-clause-sound
returns-clause-sound c = laws.derivations_hold

pub returns-clause-refuted : goal.returns-clause-refuted
returns-clause-refuted c = laws.refutations_hold
