-- Lemmas.
pub mod PlaceEquations
pub mod FaultLemmas
pub mod WeightLemmas
pub mod TypeEquations
pub mod ScopeLemmas
pub mod FoldEquations
