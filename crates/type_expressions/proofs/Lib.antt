-- Lemmas.
pub mod ConstantEquations
pub mod PartLemmas
pub mod ConstantLemmas
pub mod ConstantFolds
pub mod ListEquations
pub mod ArmEquations
pub mod TurnLemmas
pub mod ArgumentLemmas
pub mod DoneLemmas
