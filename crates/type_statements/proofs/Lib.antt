-- Lemmas.
pub mod StepLemmas
pub mod StatementRows
pub mod PlainEquations
pub mod ArmEquations
pub mod TurnLemmas
pub mod DoneLemmas
